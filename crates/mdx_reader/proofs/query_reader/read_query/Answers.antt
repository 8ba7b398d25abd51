-- That `read_query` ensures what it says.
use Rattle.std.proofs.Common.{subst, Err}
use Rattle.text_forms.specs.declared.ReadFault.{ReadFault}
use Rattle.text_forms.specs.Forms.{Answers}
use Rattle.text_forms.specs.Modes.{Reads}
use Rattle.query_meaning.specs.declared.query.Query.{Query}
use Rattle.mdx_reader.specs.declared.place.Place.TheVariants.{Start}
use Rattle.mdx_reader.specs.Places.{rest_of}
use Rattle.mdx_reader.proofs.WholeQueries.{writes, written, stops}
use Rattle.mdx_reader.proofs.query_reader.read_query.Goals as goal

pub returns-in-Ok : goal.returns-in-Ok
returns-in-Ok c =
    let text = c.args.text.now in
    (writes text c.in-Ok.query c.in-Ok.ensures.0, λ other w. c.in-Ok.ensures.1 other (written text other w))

pub returns-in-Err-StopsAt : goal.returns-in-Err-StopsAt
returns-in-Err-StopsAt c =
    let e = c.in-Err-StopsAt in
    let text = c.args.text.now in
    stops text e.byte (subst (λ (fault : ReadFault). Answers (λ (query : Query). query) (Reads (rest_of Start)) (Unit {0}) text (Err fault)) e.field-0-is e.ensures)
