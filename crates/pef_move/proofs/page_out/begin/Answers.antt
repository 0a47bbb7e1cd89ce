use Rattle.std.proofs.Common.{◌≡◌, ◌∙◌, Some, refl, sym, ap, subst}
use Rattle.pef_num.specs.DoublewordLaw.{AreBytes}
use Rattle.pef_frames.specs.Frame.{FrameState}
use Rattle.pef_pages.specs.Cells.{begun_out}
use Rattle.pef_pages.specs.Pages.{PagesState, cell_at, with_page}
use Rattle.pef_guest.specs.Shows.{digest_by}
use Rattle.pef_move.proofs.page_out.begin.Goals as goal

-- What is sealed is the page of the frame, and what is kept of it is the digest of what was sealed.
pub returns-clause-begun : goal.returns-clause-begun
returns-clause-begun g c = record {
  frame = c.in-Some.frame.now;
  there = sym c.in-Some.ensures;
  bytes = subst AreBytes c.bytes_of.ensures.value c.bytes_of.ensures.bytes;
  hand = rw (c.begin.ensures.cpu, c.take_sealed.ensures.hand, c.bytes_of.ensures.value, c.version.ensures) refl;
  stands_for = rw c.begin.ensures.cpu (rw (c.bytes_of.ensures.value, c.version.ensures) at c.take_sealed.ensures.stands);
  others = c.take_sealed.ensures.others;
  same_image = c.take_sealed.ensures.same_image;
  same_takes = c.take_sealed.ensures.same_takes;
  size = rw c.begin.ensures.cpu c.take_sealed.ensures.length;
  cpu_is = rw c.begin.ensures.cpu refl;
  guest_is =
      let bytes : c.digest_of-digest.result.bytes ≡ (digest_by c.begin.new.self.hand).bytes = rw (c.begin.ensures.cpu, ← c.hand-hand.ensures) c.digest_of-digest.ensures in
      ap (λ (pages : PagesState FrameState). record c.args.guest.now { pages = pages; sealer = c.take_sealed.new.sealer })
      (c.begin_out.ensures.pages ∙ (λ i. with_page c.args.guest.now.pages c.args.route.gfn
      (record { cell = begun_out (cell_at c.args.guest.now.pages c.args.route.gfn) c.args.cpu.now.number (Some (record { bytes = bytes i })); version = c.begin_out.ensures.version i })));
}
