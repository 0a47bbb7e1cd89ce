use Rattle.std.proofs.Common.{rules, arith, ◌≡◌, ◌++◌, ◌∷◌, [], ◌==◌, nat_eq, true, not, filter, ◌∙◌, length-append}
use Rattle.std.proofs.lemmas.Bool.Decides.{nat_tests}
use Rattle.indexmap.proofs.CallerLemmas.{insert_entry-new}
use Rattle.indexmap.specs.IndexMap.{insert_entry}
use Rattle.pef_slots.proofs.Others.{next-passes, next-in, next-absent, next-room}
use Rattle.pef_slots.proofs.room.copy_others.Goals as goal

-- another is left, so there is room for it
pub unwrap-requires : goal.unwrap-requires
unwrap-requires c =
    let passes : not (c.args.id == c.in-Some.key.now) ≡ true = grind (arith, nat_tests, c.if-key-id.true) in
    let split = next-passes c.in-Some.key.now c.in-Some.slot.now c.next.new.self (λ e. not (c.args.id == e.0)) c.args.from.now.entries c.loop-key.to.entries c.loop-key.key-iterator c.in-Some.ensures.steps passes c.loop-key.invariant.entries in
    let room = next-room c.in-Some.key.now c.in-Some.slot.now (filter (λ e. not (c.args.id == e.0)) c.next.new.self) (λ e. not (c.args.id == e.0)) c.args.from.now.entries c.loop-key.to.entries split in
    c.insert.ensures.succeeds (omega (arith, room, c.requires.few, c.loop-key.invariant.room))

-- its id isn't in yet, so it goes last
pub loop-key-preserved-then-key-id : goal.loop-key-preserved-then-key-id
loop-key-preserved-then-key-id c =
    let passes : not (c.args.id == c.in-Some.key.now) ≡ true = grind (arith, nat_tests, c.if-key-id.true) in
    let split = next-passes c.in-Some.key.now c.in-Some.slot.now c.next.new.self (λ e. not (c.args.id == e.0)) c.args.from.now.entries c.loop-key.to.entries c.loop-key.key-iterator c.in-Some.ensures.steps passes c.loop-key.invariant.entries in
    let absent = next-absent c.in-Some.key.now c.in-Some.slot.now (filter (λ e. not (c.args.id == e.0)) c.next.new.self) (λ e. not (c.args.id == e.0)) c.args.from.now.entries c.loop-key.to.entries split c.iter-key-items.ensures.unique in
    let inserted : c.insert.new.self.entries ≡ insert_entry nat_eq c.loop-key.to.entries c.in-Some.key.now c.in-Some.slot.now = search rules in
    let put : c.insert.new.self.entries ≡ c.loop-key.to.entries ++ (c.in-Some.key.now, c.in-Some.slot.now) ∷ [] = inserted ∙ insert_entry-new nat_eq c.loop-key.to c.in-Some.key.now c.in-Some.slot.now absent in
    record {
      entries = next-in c.in-Some.key.now c.in-Some.slot.now c.next.new.self (λ e. not (c.args.id == e.0)) c.args.from.now.entries c.loop-key.to.entries c.insert.new.self.entries put split;
      room = rw put (omega (arith, length-append c.loop-key.to.entries ((c.in-Some.key.now, c.in-Some.slot.now) ∷ []), c.insert.ensures.spare, c.loop-key.invariant.room));
    }
