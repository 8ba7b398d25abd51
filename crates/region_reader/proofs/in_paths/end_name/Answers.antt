-- That `end_name` ensures what it says.
use Rattle.std.proofs.Common.{[], ap}
use Rattle.query_meaning.specs.declared.token.Token.TheVariants.{Sign}
use Rattle.query_meaning.specs.Tokens.{At}
use Rattle.query_meaning.specs.RegionTree.{Member, Range}
use Rattle.text_forms.specs.Carried.{taken, refused}
use Rattle.region_reader.specs.declared.place.PathOf.TheVariants as path_of
use Rattle.region_reader.specs.declared.place.Place.TheVariants.{AName, AfterName, AfterRegion}
use Rattle.region_reader.specs.Places.{rest_of}
use Rattle.region_reader.proofs.Moves.{member_ended, first_ended, last_ended, path_refused}
use Rattle.region_reader.proofs.in_paths.end_name.Goals as goal

pub returns-then-is_sign-2 : goal.returns-then-is_sign-2
returns-then-is_sign-2 c = λ at. let a = c.args in
    taken rest_of (AfterName a.cube a.around a.of a.path) (AfterName a.cube a.around path_of.Member a.path) at a.token (Sign 41) (AfterRegion a.cube a.around c.member.result) (AfterRegion a.cube a.around (Member a.path))
    (ap (λ x. AfterName a.cube a.around x a.path) c.in-Member.is) c.if-is_sign-2.ensures (ap (λ x. AfterRegion a.cube a.around x) c.member.ensures)
    (member_ended a.cube a.around a.path at)

pub returns-in-Member : goal.returns-in-Member
returns-in-Member c = λ at. let a = c.args in
    refused rest_of (AfterName a.cube a.around a.of a.path) (AfterName a.cube a.around path_of.Member a.path) (At at a.token)
    (ap (λ x. AfterName a.cube a.around x a.path) c.in-Member.is) (path_refused a.cube a.around path_of.Member a.path at a.token c.if-is_sign.ensures c.if-is_sign-2.ensures)

pub returns-then-is_sign-3 : goal.returns-then-is_sign-3
returns-then-is_sign-3 c = λ at. let a = c.args in
    taken rest_of (AfterName a.cube a.around a.of a.path) (AfterName a.cube a.around path_of.First a.path) at a.token (Sign 44) (AName a.cube a.around (path_of.Last a.path) c.new.result) (AName a.cube a.around (path_of.Last a.path) [])
    (ap (λ x. AfterName a.cube a.around x a.path) c.in-First.is) c.if-is_sign-3.ensures (ap (λ x. AName a.cube a.around (path_of.Last a.path) x) c.new.ensures)
    (first_ended a.cube a.around a.path at)

pub returns-in-First : goal.returns-in-First
returns-in-First c = λ at. let a = c.args in
    refused rest_of (AfterName a.cube a.around a.of a.path) (AfterName a.cube a.around path_of.First a.path) (At at a.token)
    (ap (λ x. AfterName a.cube a.around x a.path) c.in-First.is) (path_refused a.cube a.around path_of.First a.path at a.token c.if-is_sign.ensures c.if-is_sign-3.ensures)

pub returns-then-is_sign-4 : goal.returns-then-is_sign-4
returns-then-is_sign-4 c = λ at. let a = c.args in let p = c.in-Last in
    taken rest_of (AfterName a.cube a.around a.of a.path) (AfterName a.cube a.around (path_of.Last p.first) a.path) at a.token (Sign 41) (AfterRegion a.cube a.around c.range.result) (AfterRegion a.cube a.around (Range p.first a.path))
    (ap (λ x. AfterName a.cube a.around x a.path) p.is) c.if-is_sign-4.ensures (ap (λ x. AfterRegion a.cube a.around x) c.range.ensures)
    (last_ended a.cube a.around a.path at p.first)

pub returns : goal.returns
returns c = λ at. let a = c.args in let p = c.in-Last in
    refused rest_of (AfterName a.cube a.around a.of a.path) (AfterName a.cube a.around (path_of.Last p.first) a.path) (At at a.token)
    (ap (λ x. AfterName a.cube a.around x a.path) p.is) (path_refused a.cube a.around (path_of.Last p.first) a.path at a.token c.if-is_sign.ensures c.if-is_sign-4.ensures)
