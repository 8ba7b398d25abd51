-- What lists the tuples of a set.
use Rattle.std.specs.Prelude.{ℕ, List, [], ◌∷◌, ◌++◌, All, map}
use Rattle.olap_meaning.specs.Catalog.{children, level_members}
use Rattle.olap_meaning.specs.MemberOf.{IsLevelIn, IsMemberOf}
use Rattle.olap_meaning.specs.declared.cells.Member.{Member}
use Rattle.olap_meaning.specs.declared.tables.Catalog.{Catalog}
use Rattle.query_meaning.specs.Resolution.{pairs}
use Rattle.cell_request.specs.declared.plan.Plan.{Plan, Tuple, Members, Children, Cross', Joined', Row_of-Plan, end_of-Plan, more_of-Plan}

-- tuples of one member each
abbrev pub alone : List Member → List (List Member)
alone members = map (λ one. one ∷ []) members

-- the tuples that a plan lists
abbrev mutual
  pub listed : Catalog → ℕ → Plan → List (List Member)
  listed catalog cube (Tuple members) = members ∷ []
  listed catalog cube (Members level) = alone (level_members catalog cube level)
  listed catalog cube (Children parent) = alone (children catalog parent)
  listed catalog cube (Cross' p first q second) =
      pairs (listed catalog cube first) (listed catalog cube second)
  listed catalog cube (Joined' shape plans) = all_listed catalog cube plans

  pub all_listed : {m : _} → Catalog → ℕ → Row_of-Plan m → List (List Member)
  all_listed catalog cube end_of-Plan = []
  all_listed catalog cube (more_of-Plan plan plans) =
      listed catalog cube plan ++ all_listed catalog cube plans

-- the members and levels of a plan are a cube's
abbrev mutual
  pub IsPlanOf : Catalog → ℕ → Plan → Type 0
  IsPlanOf catalog cube (Tuple members) = All (IsMemberOf catalog cube) members
  IsPlanOf catalog cube (Members level) = IsLevelIn catalog level
  IsPlanOf catalog cube (Children parent) = Unit {0}
  IsPlanOf catalog cube (Cross' p first q second) =
      IsPlanOf catalog cube first × IsPlanOf catalog cube second
  IsPlanOf catalog cube (Joined' shape plans) = ArePlansOf catalog cube plans

  pub ArePlansOf : {m : _} → Catalog → ℕ → Row_of-Plan m → Type 0
  ArePlansOf catalog cube end_of-Plan = Unit {0}
  ArePlansOf catalog cube (more_of-Plan plan plans) =
      IsPlanOf catalog cube plan × ArePlansOf catalog cube plans

-- the tuples of one plan, each with those of another
abbrev pub pairs_of : Catalog → ℕ → Plan → Plan → List (List Member)
pairs_of catalog cube first second = pairs (listed catalog cube first) (listed catalog cube second)
