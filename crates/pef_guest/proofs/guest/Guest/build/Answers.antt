use Rattle.std.proofs.Common.{rules, ◌≡◌, ◌≤◌, ◌^◌, length, refl}
use Rattle.pef_pages.specs.Pages.{invalid_pages}
use Rattle.pef_guest.proofs.Begun.{whole_begun}
use Rattle.pef_guest.proofs.guest.Guest.build.Goals as goal

pub returns-clause-whole : goal.returns-clause-whole
returns-clause-whole g c =
    let pages : c.in_ok-pages.pages ≡ invalid_pages c.args.config.now.pages = search rules in
    let few : length c.in_ok-vcpus.vcpus.items ≤ 2 ^ 8 = search rules in
    whole_begun g.S.Seal.takes _ c.args.config.now.pages c.requires.range.shift c.requires.serves pages refl refl refl few
