-- That `char_at` ensures what it says.
use Rattle.mdx_reader.proofs.TextPlaces.{char_here}
use Rattle.mdx_reader.proofs.path.char_at.Goals as goal

pub returns : goal.returns
returns c = char_here _ c.next.result c.args.text.now c.chars.result.rest.now c.next.new.self.rest.now c.args.at c.utf8.text c.requires (cc (c.chars.ensures.rest, c.range_from.ensures.value)) c.next.ensures.steps.0
