-- The file of `run` is that of one option.
use Rattle.command_words.proofs.FileFacts.{run_is_schema}
use Rattle.command_words.proofs.laws.files_are_of_one_option.Goals as goal

pub returns : goal.returns
returns c = λ words. run_is_schema words
