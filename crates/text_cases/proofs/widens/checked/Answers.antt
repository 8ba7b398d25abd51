-- That `checked` ensures what it says.
use Rattle.segment_header.proofs.WideFacts.{any_serves}
use Rattle.text_cases.proofs.widens.checked.Goals as goal

pub returns : goal.returns
returns c = any_serves c.args.wanted.now c.args.count
