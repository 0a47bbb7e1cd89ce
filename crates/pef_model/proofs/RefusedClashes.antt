-- A digest collision is a page-in that is refused, of bytes with the SHA-256 of those that were paged out.
use Rattle.std.proofs.Common.{◌≡◌, ◌≢◌, ℕ, List, [], ◌∷◌, Bool, true, false, not, refl, ap, sym, ◌∙◌, ◌==◌, ◌&&◌, Option, Some, None, if◌then◌else◌, subst, IsSome}
use Rattle.std.specs.Str.{bytes_eq}
use Rattle.std.proofs.lemmas.Bool.{and_parts, both_ways, not-true}
use Rattle.std.proofs.lemmas.Slice.Eq.{bytes_eq-Decides}
use Rattle.sha2.specs.Sha256.{sha256}
use Rattle.pef_model.specs.declared.state.Work.TheVariants.{Inward}
use Rattle.pef_model.specs.declared.state.Ctx.{Ctx}
use Rattle.pef_model.specs.declared.state.Ctx.TheVariants as ctx
use Rattle.pef_model.specs.declared.command.Cmd.{Cmd}
use Rattle.pef_model.specs.declared.command.Cmd.TheVariants.{Go}
use Rattle.pef_model.specs.declared.state.Move.{Move}
use Rattle.pef_model.specs.Plan.{Plan}
use Rattle.pef_model.specs.Event.{Event}
use Rattle.pef_model.specs.GuestPart.{GuestPart}
use Rattle.pef_model.specs.History.{guest_after, IsLegal, last_begun}
use Rattle.pef_model.specs.Clash.{collide, collides_with, clashes_in}
use Rattle.pef_model.specs.Sound.{clashes_at, is_clash, is_clean}
use Rattle.pef_model.specs.Target.{Target, Alone, AtGuest, AtFrame, target_in, target_of}
use Rattle.pef_model.specs.FreshLaw.{EndsPageIn, IsRefusedClash, EachClashIsRefused, EachCollisionIsClash, NoRefusalIsClean}
use Rattle.pef_model.proofs.Folds.{same_test, test_same}
use Rattle.pef_model.proofs.Paging.{each_page_keeps_what_is_sealed}
use Rattle.pef_model.proofs.Begun.{last_sealed_is_begun}
use Rattle.pef_model.proofs.Fresh.{freshness}

-- bytes that collide with what was last sealed
record Collide (last : Option (List ℕ)) (bytes : List ℕ) : Type 0 where
  sealed : List ℕ
  last_is : last ≡ Some sealed
  other : bytes ≢ sealed
  same : sha256 bytes ≡ sha256 sealed

-- by the test
collide_by : (last : Option (List ℕ)) (bytes : List ℕ) → collides_with last bytes ≡ true → Collide last bytes
collide_by None bytes h = cc
collide_by (Some sealed) bytes h =
    let tests = and_parts (not (bytes_eq bytes sealed)) (bytes_eq (sha256 bytes) (sha256 sealed)) h in
    let equal = bytes_eq-Decides bytes sealed in
    let digests = bytes_eq-Decides (sha256 bytes) (sha256 sealed) in
    record { sealed = sealed; last_is = refl; other = λ e. both_ways (bytes_eq bytes sealed) (not-true (bytes_eq bytes sealed) tests.0) (equal.1 e); same = digests.0 tests.1 }

-- a page on the move that aims at a guest aims at its own
aims_at : (lpid : ℕ) (move : Move) (b : Bool) → b ≡ true → (if b then AtGuest move.lpid else AtFrame move.frame) ≡ AtGuest lpid → move.lpid ≡ lpid
aims_at lpid move true t aims = cc
aims_at lpid move false t aims = cc

module _ (plan : Plan) (past : List Event) (e : Event) (legal : IsLegal plan (e ∷ past)) where
  abbrev guests : ℕ → GuestPart
  guests lpid = (guest_after plan lpid past).part

  -- the end of a page-in whose bytes collide with what was last sealed is refused
  clash_is_refused : (lpid : ℕ) (c : Ctx) (cmd : Cmd) → e.saw.before ≡ c → e.trace.cmd ≡ cmd → target_in plan c e.saw.lpid cmd ≡ AtGuest lpid → clashes_in (guests lpid) c cmd e.bytes ≡ true → IsRefusedClash plan past e
  clash_is_refused lpid (ctx.Uv (Inward move)) Go before cmd_is aims h =
      let extends = legal.0 in
      let lives : Bool = move.generation == (guests lpid).generation in
      let collides = and_parts (move.copied && lives) (collides_with ((guests lpid).pages move.gfn).sealed e.bytes) h in
      let ended = and_parts move.copied lives collides.0 in
      let own : move.lpid ≡ lpid = aims_at lpid move move.copied ended.0 aims in
      let generation : move.generation ≡ (guests move.lpid).generation = test_same move.generation (guests lpid).generation ended.1 ∙ ap (λ (l : ℕ). (guests l).generation) (sym own) in
      let hit = collide_by ((guests move.lpid).pages move.gfn).sealed e.bytes (ap (λ (l : ℕ). collides_with ((guests l).pages move.gfn).sealed e.bytes) own ∙ collides.1) in
      let keeps = each_page_keeps_what_is_sealed plan past move.lpid move.gfn legal.1 in
      let out = keeps.sealed.0 (subst IsSome (sym hit.last_is) refl) in
      let ends : EndsPageIn plan past move e = record { before = before; copied = ended.0; cmd_is = cmd_is; generation = generation; out = out } in
      let begun : last_begun plan move.lpid move.gfn past ≡ Some hit.sealed = sym (last_sealed_is_begun plan past move.lpid move.gfn legal.1 out) ∙ hit.last_is in
      let fresh = freshness plan past move e legal ends in
      let refused = fresh.refused (λ same. let equal : Some hit.sealed ≡ Some e.bytes = sym begun ∙ same in hit.other (cc)) in
      record { move = move; before = before; answer = refused.answer; sealed = hit.sealed; begun = begun; other = hit.other; same = hit.same }
  clash_is_refused lpid c cmd before cmd_is aims h = cc

  -- whatever it aims at
  clash_at_refused : (t : Target) → target_of plan e ≡ t → clashes_at guests e t ≡ true → IsRefusedClash plan past e
  clash_at_refused Alone is h = cc
  clash_at_refused (AtFrame n) is h = cc
  clash_at_refused (AtGuest lpid) is h = clash_is_refused lpid e.saw.before e.trace.cmd refl refl is h

-- so is each clash
pub each_clash_is_refused : EachClashIsRefused
each_clash_is_refused plan past e legal h = clash_at_refused plan past e legal (target_of plan e) refl h

-- and there is none where nothing is refused
pub no_refusal_is_clean : NoRefusalIsClean
no_refusal_is_clean plan [] legal none = refl
no_refusal_is_clean plan (e ∷ past) legal none = by_test (no_refusal_is_clean plan past legal.1 none.1) (is_clash plan past e) refl where
  by_test : is_clean plan past ≡ true → (b : Bool) → is_clash plan past e ≡ b → is_clean plan past && not b ≡ true
  by_test before true t = let refused = each_clash_is_refused plan past e legal t in absurd (none.0 refused.answer)
  by_test before false t = ap (λ (b : Bool). b && true) before

-- bytes that differ and have one SHA-256 collide
same_digests : (bytes sealed : List ℕ) → bytes ≢ sealed → sha256 bytes ≡ sha256 sealed → collide bytes sealed ≡ true
same_digests bytes sealed other same =
    by_test (bytes_eq bytes sealed) refl where
      by_test : (b : Bool) → bytes_eq bytes sealed ≡ b → collide bytes sealed ≡ true
      by_test true t = let equal = bytes_eq-Decides bytes sealed in absurd (other (equal.0 t))
      by_test false t =
          let digests = bytes_eq-Decides (sha256 bytes) (sha256 sealed) in
          ap (λ (b : Bool). not b && bytes_eq (sha256 bytes) (sha256 sealed)) t ∙ digests.1 same

-- so each page-in of such bytes is a collision
pub each_collision_is_clash : EachCollisionIsClash
each_collision_is_clash plan past move e sealed legal ends begun other same =
    let guests : ℕ → GuestPart = (λ lpid. (guest_after plan lpid past).part) in
    let last : ((guests move.lpid).pages move.gfn).sealed ≡ Some sealed = last_sealed_is_begun plan past move.lpid move.gfn legal.1 ends.out ∙ begun in
    (λ i. clashes_at guests e (target_in plan (ends.before i) e.saw.lpid (ends.cmd_is i)))
    ∙ (λ i. clashes_at guests e (if ends.copied i then AtGuest move.lpid else AtFrame move.frame))
    ∙ (λ i. clashes_in (guests move.lpid) (ends.before i) (ends.cmd_is i) e.bytes)
    ∙ ap (λ (b : Bool). b && (move.generation == (guests move.lpid).generation) && collides_with ((guests move.lpid).pages move.gfn).sealed e.bytes) ends.copied
    ∙ ap (λ (x : ℕ). (move.generation == x) && collides_with ((guests move.lpid).pages move.gfn).sealed e.bytes) (sym ends.generation)
    ∙ ap (λ (b : Bool). b && collides_with ((guests move.lpid).pages move.gfn).sealed e.bytes) (same_test move.generation)
    ∙ ap (λ (o : Option (List ℕ)). collides_with o e.bytes) last
    ∙ same_digests e.bytes sealed other same
