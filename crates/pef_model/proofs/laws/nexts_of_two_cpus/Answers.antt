use Rattle.std.proofs.Common.{refl}
use Rattle.pef_model.proofs.laws.nexts_of_two_cpus.Goals as goal

-- computed from the definitions
pub returns : goal.returns
returns c = record {
  part = (
    record { step = refl; place = refl },
    (
      record { step = refl; place = refl },
      (
        record { step = refl; place = refl },
        (
          record { step = refl; place = refl },
          (record { step = refl; place = refl }, (record { step = refl; place = refl }, (record { step = refl; place = refl }, tt))),
        ),
      ),
    ),
  );
  first = refl;
  second = refl;
}
