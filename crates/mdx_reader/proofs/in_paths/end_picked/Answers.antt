-- That `end_picked` ensures what it says.
use Rattle.std.proofs.Common.{ap}
use Rattle.query_meaning.specs.declared.token.Token.TheVariants.{Word}
use Rattle.query_meaning.specs.declared.keyword.Keyword.TheVariants as keyword
use Rattle.query_meaning.specs.declared.set_text.Picks.TheVariants as picks
use Rattle.mdx_reader.specs.declared.place.PathOf.TheVariants as path_of
use Rattle.mdx_reader.specs.declared.place.Place.TheVariants as place
use Rattle.query_meaning.specs.Keywords.{keyword_text}
use Rattle.mdx_reader.specs.Words.{suffix_key}
use Rattle.query_meaning.specs.Tree.{Picked}
use Rattle.mdx_reader.specs.PathMoves as paths
use Rattle.text_forms.specs.Carried.{taken}
use Rattle.mdx_reader.specs.Places.{rest_of}
use Rattle.mdx_reader.proofs.in_paths.end_picked.Goals as goal

pub returns-then-children-clause-takes : goal.returns-then-children-clause-takes
returns-then-children-clause-takes c = λ at. let a = c.args in let p = c.in-Alone in
    taken rest_of (place.AfterDot a.of a.path) (place.AfterDot (path_of.Alone p.head p.around p.from) a.path) at (Word (keyword_text (suffix_key a.children))) (Word (keyword_text keyword.Children)) (place.AfterSet p.head p.around c.picked.result) (place.AfterSet p.head p.around (Picked p.from a.path picks.Children))
    (ap (λ x. place.AfterDot x a.path) p.is) (ap (λ x. Word (keyword_text (suffix_key x))) c.if-children.true)
    (ap (λ x. place.AfterSet p.head p.around x) c.picked.ensures)
    (paths.children_taken p.head p.around p.from a.path at)

pub returns-in-Alone-clause-takes : goal.returns-in-Alone-clause-takes
returns-in-Alone-clause-takes c = λ at. let a = c.args in let p = c.in-Alone in
    taken rest_of (place.AfterDot a.of a.path) (place.AfterDot (path_of.Alone p.head p.around p.from) a.path) at (Word (keyword_text (suffix_key a.children))) (Word (keyword_text keyword.Members)) (place.AfterSet p.head p.around c.picked-in-Alone.result) (place.AfterSet p.head p.around (Picked p.from a.path picks.Members))
    (ap (λ x. place.AfterDot x a.path) p.is) (ap (λ x. Word (keyword_text (suffix_key x))) c.if-children.false)
    (ap (λ x. place.AfterSet p.head p.around x) c.picked-in-Alone.ensures)
    (paths.members_taken p.head p.around p.from a.path at)
