-- What plans list.
use Rattle.std.proofs.Common.{◌≡◌, ◌∙◌, ◌<◌, ◌+◌, ◌++◌, ℕ, get_or, length, take, List, [], ◌∷◌, All, refl, sym, ap, map, Vec}
use Rattle.std.specs.List.{flat_map}
use Rattle.std.proofs.lemmas.List.Elements.{All-nil, All-cons, All-head, All-tail, All-append, All-map, All-same, All-weaker}
use Rattle.std.proofs.lemmas.Grind.{flat_map-append}
use Rattle.std.proofs.lemmas.List.{append-nil, take_more}
use Rattle.std.specs.declared.alloc.Global.{Global}
use Rattle.olap_meaning.specs.declared.cells.Member.{Member}
use Rattle.olap_meaning.specs.declared.tables.Catalog.{Catalog}
use Rattle.olap_meaning.specs.MemberOf.{IsMemberOf}
use Rattle.query_meaning.specs.OwnAxes.{AreTuplesOf}
use Rattle.query_meaning.specs.Resolution.{pairs}
use Rattle.cell_request.specs.declared.plan.Plan.{Plan, Joined, Row_of-Plan, end_of-Plan, more_of-Plan, items-the_row-Plan, items_hidden-the_row-Plan-0}
use Rattle.cell_request.specs.declared.plan.Plan.TheBlock.{hidden-the_row-Plan-0}
use Rattle.cell_request.specs.Plans.{all_listed, alone, listed, ArePlansOf, IsPlanOf}

row_listed : (catalog : Catalog) (cube : ℕ) {m : _} (plans : Row_of-Plan m) → all_listed catalog cube plans ≡ flat_map (listed catalog cube) (items-the_row-Plan m plans)
row_listed catalog cube end_of-Plan = refl
row_listed catalog cube (more_of-Plan plan plans) = ap (λ ts. listed catalog cube plan ++ ts) (row_listed catalog cube plans)

row_own : (catalog : Catalog) (cube : ℕ) {m : _} (plans : Row_of-Plan m) → All (IsPlanOf catalog cube) (items-the_row-Plan m plans) → ArePlansOf catalog cube plans
row_own catalog cube end_of-Plan own = tt
row_own catalog cube (more_of-Plan plan plans) own = (All-head (IsPlanOf catalog cube) plan _ own, row_own catalog cube plans (All-tail (IsPlanOf catalog cube) plan _ own))

own_row : (catalog : Catalog) (cube : ℕ) {m : _} (plans : Row_of-Plan m) → ArePlansOf catalog cube plans → All (IsPlanOf catalog cube) (items-the_row-Plan m plans)
own_row catalog cube end_of-Plan own = All-nil (IsPlanOf catalog cube)
own_row catalog cube (more_of-Plan plan plans) own = All-cons (IsPlanOf catalog cube) plan _ own.0 (own_row catalog cube plans own.1)

-- each tuple of a member alone is a cube's
pub alone_own : (catalog : Catalog) (cube : ℕ) (members : List Member) → All (IsMemberOf catalog cube) members → AreTuplesOf catalog cube (alone members)
alone_own catalog cube members own = All-map (All (IsMemberOf catalog cube)) (λ (one : Member). one ∷ []) members (All-weaker (IsMemberOf catalog cube) (λ one. All (IsMemberOf catalog cube) (one ∷ [])) (λ one is. All-cons (IsMemberOf catalog cube) one [] is (All-nil (IsMemberOf catalog cube))) members own)

-- so are the pairs of a cube's tuples
pub pairs_own : (catalog : Catalog) (cube : ℕ) (firsts seconds : List (List Member)) → AreTuplesOf catalog cube firsts → AreTuplesOf catalog cube seconds → AreTuplesOf catalog cube (pairs firsts seconds)
pairs_own catalog cube [] seconds one other = All-nil (All (IsMemberOf catalog cube))
pairs_own catalog cube (first ∷ firsts) seconds one other =
    All-append (All (IsMemberOf catalog cube)) (map (λ second. first ++ second) seconds) (pairs firsts seconds)
    (All-map (All (IsMemberOf catalog cube)) (λ second. first ++ second) seconds
    (All-weaker (All (IsMemberOf catalog cube)) (λ second. All (IsMemberOf catalog cube) (first ++ second)) (λ second is. All-append (IsMemberOf catalog cube) first second (All-head (All (IsMemberOf catalog cube)) first firsts one) is) seconds other))
    (pairs_own catalog cube firsts seconds (All-tail (All (IsMemberOf catalog cube)) first firsts one) other)

-- the pairs of one tuple more
pub pairs_more : (firsts seconds : List (List Member)) (i : ℕ) (first : List Member) → i < length firsts → first ≡ get_or firsts i first → pairs (take (i + 1) firsts) seconds ≡ pairs (take i firsts) seconds ++ map (λ second. first ++ second) seconds
pairs_more firsts seconds i first within is =
    ap (λ fs. pairs fs seconds) (take_more firsts i first within ∙ ap (λ f. take i firsts ++ f ∷ []) (sym is))
    ∙ flat_map-append (λ (f : List Member). map (λ second. f ++ second) seconds) (take i firsts) (first ∷ [])
    ∙ ap (λ ts. pairs (take i firsts) seconds ++ ts) (append-nil (map (λ second. first ++ second) seconds))

-- plans in a list list the tuples of each
pub joined_listed : (catalog : Catalog) (cube : ℕ) (plans : Vec Plan Global) → listed catalog cube (Joined plans) ≡ flat_map (listed catalog cube) plans.items
joined_listed catalog cube plans = row_listed catalog cube (hidden-the_row-Plan-0 plans) ∙ ap (flat_map (listed catalog cube)) (items_hidden-the_row-Plan-0 plans)

-- and are a cube's where each is
pub joined_own : (catalog : Catalog) (cube : ℕ) (plans : Vec Plan Global) → All (IsPlanOf catalog cube) plans.items → IsPlanOf catalog cube (Joined plans)
joined_own catalog cube plans own = row_own catalog cube (hidden-the_row-Plan-0 plans) (All-same (IsPlanOf catalog cube) _ _ (items_hidden-the_row-Plan-0 plans) own)

pub own_joined : (catalog : Catalog) (cube : ℕ) (plans : Vec Plan Global) → IsPlanOf catalog cube (Joined plans) → All (IsPlanOf catalog cube) plans.items
own_joined catalog cube plans own = All-same (IsPlanOf catalog cube) _ _ (sym (items_hidden-the_row-Plan-0 plans)) (own_row catalog cube (hidden-the_row-Plan-0 plans) own)
