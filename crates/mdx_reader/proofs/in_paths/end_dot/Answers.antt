-- That `end_dot` ensures what it says.
use Rattle.std.proofs.Common.{◌++◌, [], ◌∷◌, refl, ap}
use Rattle.query_meaning.specs.declared.token.Token.TheVariants.{Word, Name}
use Rattle.query_meaning.specs.declared.keyword.Keyword.TheVariants as keyword
use Rattle.mdx_reader.specs.declared.place.Place.TheVariants as place
use Rattle.query_meaning.specs.Keywords.{keyword_text}
use Rattle.mdx_reader.specs.PathMoves as paths
use Rattle.text_forms.specs.Carried.{at_both, taken}
use Rattle.mdx_reader.specs.Places.{rest_of}
use Rattle.mdx_reader.proofs.in_paths.end_dot.Goals as goal

pub returns-then-is_word-clause-takes : goal.returns-then-is_word-clause-takes
returns-then-is_word-clause-takes c = λ at. let a = c.args in at_both rest_of (place.AfterDot a.of a.path) (place.AfterDot a.of a.path) at a.token (Word (keyword_text keyword.Members)) c.end_picked.result refl c.if-is_word.ensures (c.end_picked.ensures.takes at)

pub returns-then-is_word-2-clause-takes : goal.returns-then-is_word-2-clause-takes
returns-then-is_word-2-clause-takes c = λ at. let a = c.args in at_both rest_of (place.AfterDot a.of a.path) (place.AfterDot a.of a.path) at a.token (Word (keyword_text keyword.Children)) c.end_picked-then-is_word-2.result refl c.if-is_word-2.ensures (c.end_picked-then-is_word-2.ensures.takes at)

pub returns-clause-takes : goal.returns-clause-takes
returns-clause-takes c = λ at. let a = c.args in
    taken rest_of (place.AfterDot a.of a.path) (place.AfterDot a.of a.path) at a.token (Name c.in-Some.name) (place.AfterName a.of c.push.new.self) (place.AfterName a.of (a.path ++ c.in-Some.name ∷ [])) refl c.in-Some.ensures (ap (λ x. place.AfterName a.of x) c.in_ok-push.ensures.ok) (paths.name_follows a.of a.path c.in-Some.name at)
