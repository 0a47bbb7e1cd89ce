-- No two page-outs of a history seal under one tag.
use Rattle.std.proofs.Common.{◌≡◌, ◌≢◌, ℕ, ◌+◌, ◌<◌, List, ◌∷◌, ◌++◌, Bool, true, cond, ap, ◌∙◌, arith}
use Rattle.std.specs.List.{count_by}
use Rattle.std.proofs.lemmas.List.Sums.{sum_by-append, sum_by-cons}
use Rattle.pef_model.specs.declared.state.Tag.{Tag}
use Rattle.pef_model.specs.Plan.{Plan}
use Rattle.pef_model.specs.Event.{Event}
use Rattle.pef_model.specs.History.{IsLegal, page_after, begins_out}
use Rattle.pef_model.specs.MoveLaw.{sealing_tag, NoTagTwice}
use Rattle.pef_model.proofs.Begun.{legal_before, version_counts}
use Rattle.pef_model.proofs.TagBytes.{tag_bytes_tell}

-- what is added to a list beside an element that counts leaves more that count
more_counted : {X : Type 0} (p : X → Bool) (since past : List X) (x : X) → p x ≡ true → count_by p past < count_by p (since ++ x ∷ past)
more_counted {X = X} p since past x counts =
    let f : X → ℕ = (λ y. cond (p y) 1 0) in
    let both = sum_by-append f since (x ∷ past) in
    let one = sum_by-cons f x past ∙ ap (λ (b : Bool). cond b 1 0 + count_by p past) counts in
    omega (arith, both, one)

-- a page's version after a page-out of it began, and perhaps more, is higher than before
version_rises : (plan : Plan) (past since : List Event) (e : Event) (lpid gfn : ℕ) → IsLegal plan (since ++ e ∷ past) → begins_out plan lpid gfn e ≡ true →
    (page_after plan past lpid gfn).version < (page_after plan (since ++ e ∷ past) lpid gfn).version
version_rises plan past since e lpid gfn legal begins =
    let from : IsLegal plan (e ∷ past) = legal_before plan (e ∷ past) since legal in
    let old = version_counts plan past lpid gfn from.1 in
    let new = version_counts plan (since ++ e ∷ past) lpid gfn legal in
    let more = more_counted (begins_out plan lpid gfn) since past e begins in
    omega (arith, old, new, more)

-- so its tag is another, and another page's is too
tags_differ : (plan : Plan) (past since : List Event) (e f : Event) (lpid gfn other_lpid other_gfn : ℕ) → IsLegal plan (f ∷ (since ++ e ∷ past)) → begins_out plan lpid gfn e ≡ true →
    begins_out plan other_lpid other_gfn f ≡ true → sealing_tag plan past lpid gfn ≢ sealing_tag plan (since ++ e ∷ past) other_lpid other_gfn
tags_differ plan past since e f lpid gfn other_lpid other_gfn legal begins other_begins same =
    let later : List Event = since ++ e ∷ past in
    let rises = version_rises plan past since e lpid gfn legal.1 begins in
    let same_lpid : lpid ≡ other_lpid = ap (λ (tag : Tag). tag.lpid) same in
    let same_gfn : gfn ≡ other_gfn = ap (λ (tag : Tag). tag.gfn) same in
    let same_page = ap (λ (l : ℕ). (page_after plan later l gfn).version) same_lpid ∙ ap (λ (g : ℕ). (page_after plan later other_lpid g).version) same_gfn in
    let same_version : (page_after plan past lpid gfn).version + 1 ≡ (page_after plan later other_lpid other_gfn).version + 1 = ap (λ (tag : Tag). tag.version) same in
    omega (arith, rises, same_page, same_version)

pub no_tag_twice : NoTagTwice
no_tag_twice plan past since e f lpid gfn other_lpid other_gfn legal begins other_begins = record {
  tags = differ;
  bytes = λ has has_too same. differ (tag_bytes_tell (sealing_tag plan past lpid gfn) (sealing_tag plan (since ++ e ∷ past) other_lpid other_gfn) has has_too same);
} where
  differ : sealing_tag plan past lpid gfn ≢ sealing_tag plan (since ++ e ∷ past) other_lpid other_gfn
  differ = tags_differ plan past since e f lpid gfn other_lpid other_gfn legal begins other_begins
