-- That `are_pairs` ensures what it says.
use Rattle.std.proofs.Common.{string_bytes}
use Rattle.olap_server.proofs.WordFacts.{even_pairs}
use Rattle.olap_server.proofs.cell_command.are_pairs.Goals as goal

pub returns : goal.returns
returns c = even_pairs string_bytes c.args.words.now
