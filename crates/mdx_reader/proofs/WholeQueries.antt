-- A text that the reader's start takes writes a query, and the other way round.
use Rattle.std.proofs.Common.{ℕ, List}
use Rattle.text_forms.specs.Forms.{Writes, StopsAt}
use Rattle.text_forms.specs.Modes.{Reads}
use Rattle.query_meaning.specs.declared.query.Query.{Query}
use Rattle.query_meaning.specs.WholeQueries.{WritesQuery}
use Rattle.mdx_reader.specs.declared.place.Place.TheVariants.{Start}
use Rattle.mdx_reader.specs.Places.{rest_of}

pub writes : (text : List ℕ) (q : Query) → Writes (Reads (rest_of Start)) text q → WritesQuery text q
writes text q w = record { utf8 = w.utf8; tokens = w.means.tokens; spelled = w.means.spelled; is_query = w.means.rest }

pub written : (text : List ℕ) (q : Query) → WritesQuery text q → Writes (Reads (rest_of Start)) text q
written text q w = record { utf8 = w.utf8; means = record { tokens = w.tokens; spelled = w.spelled; rest = w.is_query } }

pub stops : (text : List ℕ) (byte : ℕ) → StopsAt (Writes (Reads (rest_of Start))) text byte → StopsAt WritesQuery text byte
stops text byte s = record {
  within = s.within;
  none = λ q w. s.none q (written text q w);
  goes_on = (s.goes_on.0, s.goes_on.1, writes _ s.goes_on.1 s.goes_on.2);
  no_further = λ lt more q w. s.no_further lt more q (written _ q w);
}
