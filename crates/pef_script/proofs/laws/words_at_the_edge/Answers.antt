use Rattle.pef_script.proofs.laws.words_at_the_edge.Goals as goal

-- computed from the definitions
pub returns : goal.returns
returns c = assumption
