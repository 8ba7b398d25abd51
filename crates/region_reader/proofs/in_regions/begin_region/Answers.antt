-- That `begin_region` ensures what it says.
use Rattle.std.proofs.Common.{refl, ap, arith}
use Rattle.query_meaning.specs.declared.token.Token.TheVariants.{Word}
use Rattle.query_meaning.specs.declared.keyword.Keyword.TheVariants as keyword
use Rattle.query_meaning.specs.Keywords.{keyword_text}
use Rattle.query_meaning.specs.RegionTree.{Measures}
use Rattle.text_forms.specs.Carried.{taken}
use Rattle.region_reader.specs.declared.place.Place.TheVariants.{ARegion, AfterRegion}
use Rattle.region_reader.specs.Places.{rest_of}
use Rattle.region_reader.proofs.Moves.{measures_taken, region_refused, no_region}
use Rattle.region_reader.proofs.in_regions.begin_region.Goals as goal

pub returns-then-is_word-3 : goal.returns-then-is_word-3
returns-then-is_word-3 c = λ at. let a = c.args in
    taken rest_of (ARegion a.cube a.around a.left) (ARegion a.cube a.around a.left) at a.token (Word (keyword_text keyword.Measures)) (AfterRegion a.cube a.around c.measures.result) (AfterRegion a.cube a.around Measures)
    refl c.if-is_word-3.ensures (ap (λ x. AfterRegion a.cube a.around x) c.measures.ensures) (measures_taken a.cube a.around a.left at)

pub returns-then-left-eq0 : goal.returns-then-left-eq0
returns-then-left-eq0 c = λ at. let a = c.args in let z = c.if-left-eq0.true in
    region_refused a.cube a.around a.left at a.token (no_region a.left a.token c.if-is_word.ensures c.if-is_word-2.ensures c.if-is_word-3.ensures (λ lt. absurd (omega (arith, lt, z))) (λ lt. absurd (omega (arith, lt, z))))

pub returns : goal.returns
returns c = λ at. let a = c.args in
    region_refused a.cube a.around a.left at a.token (no_region a.left a.token c.if-is_word.ensures c.if-is_word-2.ensures c.if-is_word-3.ensures (λ lt. c.if-is_word-4.ensures) (λ lt. c.if-is_word-5.ensures))
