-- What the answers of a depot lead to is the opening of the files that it tells.
use Rattle.cache_opening.proofs.LawFacts.{comes_in}
use Rattle.cache_opening.proofs.laws.openings_are_of_their_files.Goals as goal

pub returns : goal.returns
returns c = λ all before after asking outcome leads. comes_in all leads.comes leads.theirs
