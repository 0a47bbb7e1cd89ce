-- A history that fits the machine fits it with one more entry, object by object.
use Rattle.std.proofs.Common.{◌≡◌, ◌≢◌, ℕ, ◌+◌, ◌<◌, ◌==◌, Bool, true, false, if◌then◌else◌, List, [], ◌∷◌, length, Option, Some, None, is_some, refl, ap, sym, subst, ◌∙◌, ◌⊎◌, inl, inr, arith}
use Rattle.std.specs.Prelude.{slice_set}
use Rattle.std.proofs.Math.ListN.{length-set}
use Rattle.std.proofs.lemmas.Bool.{cases_eq}
use Rattle.std.proofs.lemmas.List.{get_or-set_same, get_or-set_other}
use Rattle.std.proofs.lemmas.Bool.Decides.{nat_tests}
use Rattle.pef_model.specs.declared.state.Tag.{Tag}
use Rattle.pef_model.specs.Plan.{Plan}
use Rattle.pef_model.specs.Event.{Event}
use Rattle.pef_model.specs.declared.entry.PoolSaw.{PoolSaw}
use Rattle.pef_model.specs.Target.{touches_cpu, touches_guest, touches_frame, is_number}
use Rattle.pef_model.specs.Cpu.{start_cpu, next_cpu}
use Rattle.pef_model.specs.Guest.{start_guest, next_guest}
use Rattle.pef_model.specs.Memory.{pool_with, start_frame, next_frame}
use Rattle.pef_model.specs.History.{cpu_after, guest_after, pool_after, frame_after}
use Rattle.pef_model.proofs.Folds.{same_test, counts, skips}
use Rattle.pef_guest.specs.declared.cpu.Cpu.{Cpu}
use Rattle.pef_guest.specs.declared.guest.Guest.{Guest}
use Rattle.pef_guest.specs.Shows.{ShowsCpu, Shows}
use Rattle.pef_core.specs.Normal.{NormalState, ShowsNormal, frame_at}
use Rattle.pef_core.specs.State.{Each}
use Rattle.pef_core.proofs.Lists.{each_set, each_map}

other_test : (m n : ℕ) → n ≢ m → (m == n) ≡ false
other_test m n other = grind (arith, nat_tests)

module _ (plan : Plan) (past : List Event) (e : Event) where
  -- the CPU of the entry is as the entry leaves it, and every other as it was
  pub cpus_after : (cpus : List Cpu) (n : ℕ) (cpu : Cpu) → e.trace.cpu ≡ n → Each (λ k c. ShowsCpu c (cpu_after plan k past)) cpus → ShowsCpu cpu (next_cpu (cpu_after plan n past) e) →
      Each (λ k c. ShowsCpu c (cpu_after plan k (e ∷ past))) (slice_set cpus n cpu)
  cpus_after cpus n cpu own each shows =
      let touched : touches_cpu n e ≡ true = ap (λ (k : ℕ). k == n) own ∙ same_test n in
      each_set (λ k c. ShowsCpu c (cpu_after plan k past)) (λ k c. ShowsCpu c (cpu_after plan k (e ∷ past))) cpus n cpu each
      (subst (ShowsCpu cpu) (sym (counts (touches_cpu n) next_cpu (start_cpu plan) e past touched)) shows)
      (λ k c other h.
      subst (ShowsCpu c) (sym (skips (touches_cpu k) next_cpu (start_cpu plan) e past (ap (λ (m : ℕ). m == k) own ∙ other_test n k other))) h)

  module _ {S : Type 0} (stands : S → Tag → List ℕ → List ℕ → Type 0) (image : S → Tag → List ℕ → List ℕ) where
    -- the guest of the entry is as the entry leaves it, and every other as it was
    pub guests_after : (guests : List (Guest S)) (i : ℕ) (guest : Guest S) → ((lpid : ℕ) → touches_guest plan lpid e ≡ (i + 1 == lpid)) → Each (λ k g. Shows stands image plan g (guest_after plan (k + 1) past)) guests →
        Shows stands image plan guest (next_guest plan (guest_after plan (i + 1) past) e) → Each (λ k g. Shows stands image plan g (guest_after plan (k + 1) (e ∷ past))) (slice_set guests i guest)
    guests_after guests i guest touched each shows =
        each_set (λ k g. Shows stands image plan g (guest_after plan (k + 1) past)) (λ k g. Shows stands image plan g (guest_after plan (k + 1) (e ∷ past))) guests i guest each
        (subst (Shows stands image plan guest) (sym (counts (touches_guest plan (i + 1)) (next_guest plan) (start_guest plan (i + 1)) e past (touched (i + 1) ∙ same_test (i + 1)))) shows)
        (λ k g other h.
        subst (Shows stands image plan g) (sym (skips (touches_guest plan (k + 1)) (next_guest plan) (start_guest plan (k + 1)) e past (touched (k + 1) ∙ other_test (i + 1) (k + 1) (λ same. other (omega arith))))) h)

    -- an entry that touches no guest leaves all
    pub guests_stay : (guests : List (Guest S)) → ((lpid : ℕ) → touches_guest plan lpid e ≡ false) → Each (λ k g. Shows stands image plan g (guest_after plan (k + 1) past)) guests →
        Each (λ k g. Shows stands image plan g (guest_after plan (k + 1) (e ∷ past))) guests
    guests_stay guests untouched each =
        each_map (λ k g. Shows stands image plan g (guest_after plan (k + 1) past)) (λ k g. Shows stands image plan g (guest_after plan (k + 1) (e ∷ past))) guests each
        (λ k g h. subst (Shows stands image plan g) (sym (skips (touches_guest plan (k + 1)) (next_guest plan) (start_guest plan (k + 1)) e past (untouched (k + 1)))) h)

  -- an entry with no frame leaves the frames
  pub frames_stay : (normal : NormalState) → e.saw.frame ≡ None → ShowsNormal plan normal (λ n. frame_after plan n past) → ShowsNormal plan normal (λ n. frame_after plan n (e ∷ past))
  frames_stay normal none shows = record {
    shift = shows.shift;
    count = shows.count;
    bytes = λ n below. shows.bytes n below ∙ sym (ap (λ (f : Option ℕ). if is_number n f then next_frame plan n (frame_after plan n past) e else frame_after plan n past) none);
  }

  -- an entry that leaves the frame that it reads leaves all
  pub frame_read : (normal : NormalState) → ((n : ℕ) (bytes : List ℕ) → next_frame plan n bytes e ≡ bytes) → ShowsNormal plan normal (λ k. frame_after plan k past) → ShowsNormal plan normal (λ k. frame_after plan k (e ∷ past))
  frame_read normal leaves shows = record {
    shift = shows.shift;
    count = shows.count;
    bytes = λ k below. shows.bytes k below ∙ sym (by_test k (touches_frame k e));
  } where
    by_test : (k : ℕ) (b : Bool) → (if b then next_frame plan k (frame_after plan k past) e else frame_after plan k past) ≡ frame_after plan k past
    by_test k true = leaves k (frame_after plan k past)
    by_test k false = refl

  -- the frame that an entry writes has what the entry leaves, and every other what it had
  pub frame_written : (normal : NormalState) (n : ℕ) (bytes : List ℕ) → e.saw.frame ≡ Some n → n < length normal.frames → bytes ≡ next_frame plan n (frame_at normal.frames n) e →
      ShowsNormal plan normal (λ k. frame_after plan k past) → ShowsNormal plan (record normal { frames = slice_set normal.frames n bytes }) (λ k. frame_after plan k (e ∷ past))
  frame_written normal n bytes frame there is shows = record {
    shift = shows.shift;
    count = length-set normal.frames n bytes ∙ shows.count;
    bytes = λ k below. by_place k below (cases_eq k n);
  } where
    touched : (k : ℕ) → touches_frame k e ≡ (n == k)
    touched k = ap (is_number k) frame

    by_place : (k : ℕ) → k < plan.normal → (k ≡ n) ⊎ (k ≢ n) → frame_at (slice_set normal.frames n bytes) k ≡ frame_after plan k (e ∷ past)
    by_place k below (inl same) =
        ap (frame_at (slice_set normal.frames n bytes)) same ∙ get_or-set_same normal.frames n bytes [] there ∙ is
        ∙ ap (λ (b : List ℕ). next_frame plan n b e) (shows.bytes n (subst (λ (m : ℕ). n < m) shows.count there))
        ∙ sym (counts (touches_frame n) (next_frame plan n) (start_frame plan) e past (touched n ∙ same_test n)) ∙ ap (λ (m : ℕ). frame_after plan m (e ∷ past)) (sym same)
    by_place k below (inr other) =
        get_or-set_other normal.frames n k bytes [] other ∙ shows.bytes k below
        ∙ sym (skips (touches_frame k) (next_frame plan k) (start_frame plan) e past (touched k ∙ other_test n k other))

  -- the number of free frames, whether the entry touched the pool or not
  pub free_after : pool_after plan (e ∷ past) ≡ pool_with (pool_after plan past) e.saw.pool
  free_after = by_saw e.saw.pool where
    by_saw : (saw : Option PoolSaw) → (if is_some saw then pool_with (pool_after plan past) saw else pool_after plan past) ≡ pool_with (pool_after plan past) saw
    by_saw None = refl
    by_saw (Some saw) = refl
