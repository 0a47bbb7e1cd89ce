use Rattle.pef_pages.proofs.Oldest.{oldest-rests, oldest-below, oldest-none}
use Rattle.pef_pages.proofs.pages.Pages.oldest.Goals as goal

-- the order has each Secure page, so where none of it rests no page does, and what is found is a Secure page
pub returns-clause-none : goal.returns-clause-none
returns-clause-none g c = oldest-none _ c.first_at_rest.ensures.ordered _ c.first_at_rest.ensures.first

pub returns-clause-rests : goal.returns-clause-rests
returns-clause-rests g c = oldest-rests _ c.first_at_rest.ensures.ordered _ c.first_at_rest.ensures.first

pub returns-clause-below : goal.returns-clause-below
returns-clause-below g c = oldest-below _ c.first_at_rest.ensures.ordered _ c.first_at_rest.ensures.first
