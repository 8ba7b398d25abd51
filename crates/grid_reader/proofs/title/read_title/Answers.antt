-- That `read_title` ensures what it says.
use Rattle.grid_reader.proofs.TitleFacts.{title_is_utf8}
use Rattle.grid_reader.proofs.title.read_title.Goals as goal

pub returns-in_default : goal.returns-in_default
returns-in_default c x =
    (λ e. absurd cc, λ t. absurd (c.in_default.ensures.cases.0 (title_is_utf8 c.args.field.now t.0)))
