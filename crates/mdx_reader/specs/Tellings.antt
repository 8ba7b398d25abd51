-- Places that go on alike with a token take and refuse it alike.
use Rattle.std.proofs.Common.{◌↔◌, List, ◌∷◌, Option, Some, None}
use Rattle.query_meaning.specs.Tokens.{Placed}
use Rattle.text_forms.specs.Grammars.{Took}
use Rattle.query_meaning.specs.declared.query.Query.{Query}
use Rattle.mdx_reader.specs.declared.place.Place.{Place}
use Rattle.mdx_reader.specs.Places.{rest_of}

pub took_alike : (R S : List Placed → Query → Type 0) (t : Placed) (o : Option Place) → ((ts : List Placed) (q : Query) → R (t ∷ ts) q ↔ S (t ∷ ts) q) → Took rest_of S t o → Took rest_of R t o
took_alike R S t None i h = λ ts q r. h ts q ((i ts q).0 r)
took_alike R S t (Some next) i h = λ ts q. ((λ r. (h ts q).0 ((i ts q).0 r)), (λ r. (i ts q).1 ((h ts q).1 r)))
