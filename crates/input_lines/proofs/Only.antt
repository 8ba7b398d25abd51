-- A line asks for one thing alone.
use Rattle.std.proofs.Common.{◌≡◌, refl, sym, ◌∙◌, ap, subst, ℕ, ◌⊎◌, List, true, false, codes, Some, inl, inr}
use Rattle.std.specs.Str.{is_utf8}
use Rattle.query_meaning.specs.declared.query.Query.{Query}
use Rattle.query_meaning.specs.declared.region_text.RegionText.{RegionText}
use Rattle.query_meaning.specs.Requests.{argument_of, commands, has_one_of, is_blank}
use Rattle.query_meaning.specs.WholeFlushes.{WritesFlush}
use Rattle.query_meaning.specs.WholeQueries.{WritesQuery}
use Rattle.text_forms.specs.Forms.{StopsAt, Writes}
use Rattle.command_arguments.specs.Append.{IsAppend}
use Rattle.command_arguments.specs.Blank.{IsBlank}
use Rattle.command_arguments.specs.Name.{IsName}
use Rattle.command_arguments.specs.Position.{IsPosition}
use Rattle.command_arguments.specs.declared.append.AppendArgument.{AppendArgument}
use Rattle.input_lines.specs.Asked.{AsksOnly}
use Rattle.input_lines.specs.Requests.{Request, NotText, Blank, NoCommand, Stops, Quit, After, Append, Ask, Flush, Agg, Show, ArgumentStops, HasArgument, IsOnly, IsRequest, Stopped}
use Rattle.input_lines.proofs.Arguments.{white_argument}
use Rattle.input_lines.proofs.Commands.{Command, mdx, append, flush, agg, cache, after, quit, HasCommand, word_of, has_none, none_in_blank, not_both, one_command}
use Rattle.input_lines.proofs.Stops.{one_stop}

-- what an argument of a command means
abbrev pub value_of : Command → Type 0
value_of mdx = Query
value_of append = AppendArgument
value_of flush = RegionText
value_of agg = List ℕ
value_of cache = Unit {0}
value_of after = ℕ
value_of quit = Unit {0}

-- how a text writes that
abbrev pub writes_of : (c : Command) → List ℕ → value_of c → Type 0
writes_of mdx = WritesQuery
writes_of append = Writes IsAppend
writes_of flush = WritesFlush
writes_of agg = Writes IsName
writes_of cache = Writes IsBlank
writes_of after = Writes IsPosition
writes_of quit = Writes IsBlank

-- what the command then asks for
abbrev pub made_of : (c : Command) → value_of c → Request
made_of mdx query = Ask query
made_of append argument = Append argument
made_of flush text = Flush text
made_of agg name = Agg name
made_of cache nothing = Show
made_of after n = After n
made_of quit nothing = Quit

-- what is asked for by a command with an argument: what the argument means makes it, or it stops
abbrev Means : Command → List ℕ → Request → Type 0
Means c argument other =
    ((q : value_of c) × (other ≡ made_of c q) × writes_of c argument q)
    ⊎ ((byte : ℕ) × (other ≡ Stops byte) × StopsAt (writes_of c) argument byte)

-- a line of text has a command with an argument, and this is what it asks for
record IsCommanded (line : List ℕ) (other : Request) : Type 0 where
  pub utf8 : is_utf8 line ≡ true
  pub command : Command
  pub argument : List ℕ
  pub is : argument_of (word_of command) line ≡ Some argument
  pub means : Means command argument other

-- what a line asks for that has no command
abbrev IsPlain : List ℕ → Request → Type 0
IsPlain line other =
    ((other ≡ NotText) × IsRequest line NotText) ⊎ ((other ≡ Blank) × IsRequest line Blank)
    ⊎ ((other ≡ NoCommand) × IsRequest line NoCommand)

-- what a line asks for, by its command, if it has one
abbrev Sorted : List ℕ → Request → Type 0
Sorted line other = IsPlain line other ⊎ IsCommanded line other

by_value : (c : Command) (line : List ℕ) (q : value_of c) → (is_utf8 line ≡ true) × HasArgument (word_of c) (writes_of c) line q → Sorted line (made_of c q)
by_value c line q (utf8, has) =
    inr (record { utf8 = utf8; command = c; argument = has.argument; is = has.command; means = inl (q, refl, has.writes) })

by_stop : (c : Command) (line : List ℕ) (byte : ℕ) → is_utf8 line ≡ true → ArgumentStops (word_of c) (writes_of c) line byte → Sorted line (Stops byte)
by_stop c line byte utf8 stop =
    inr (record { utf8 = utf8; command = c; argument = stop.argument; is = stop.command; means = inr (byte, refl, stop.stops) })

stopped : (line : List ℕ) (byte : ℕ) → is_utf8 line ≡ true → Stopped line byte → Sorted line (Stops byte)
stopped line byte utf8 (inl s) = by_stop mdx line byte utf8 s
stopped line byte utf8 (inr (inl s)) = by_stop append line byte utf8 s
stopped line byte utf8 (inr (inr (inl s))) = by_stop flush line byte utf8 s
stopped line byte utf8 (inr (inr (inr (inl s)))) = by_stop agg line byte utf8 s
stopped line byte utf8 (inr (inr (inr (inr (inl s))))) = by_stop cache line byte utf8 s
stopped line byte utf8 (inr (inr (inr (inr (inr (inl s)))))) = by_stop after line byte utf8 s
stopped line byte utf8 (inr (inr (inr (inr (inr (inr s)))))) = by_stop quit line byte utf8 s

sorted : (line : List ℕ) (other : Request) → IsRequest line other → Sorted line other
sorted line NotText asks = inl (inl (refl, asks))
sorted line Blank asks = inl (inr (inl (refl, asks)))
sorted line NoCommand asks = inl (inr (inr (refl, asks)))
sorted line (Stops byte) asks = stopped line byte asks.0 asks.1
sorted line (Ask q) asks = by_value mdx line q asks
sorted line (Append q) asks = by_value append line q asks
sorted line (Flush q) asks = by_value flush line q asks
sorted line (Agg q) asks = by_value agg line q asks
sorted line (After q) asks = by_value after line q asks
sorted line Show asks = by_value cache line tt (asks.0, white_argument (codes "CACHE") line asks.1)
sorted line Quit asks = by_value quit line tt (asks.0, white_argument (codes "QUIT") line asks.1)

-- a line of text with a command asks for nothing that a line without one asks for
not_plain : (c : Command) (line : List ℕ) (other : Request) → is_utf8 line ≡ true → HasCommand c line → IsPlain line other → ⊥
not_plain c line other utf8 has (inl plain) = not_both (is_utf8 line) utf8 plain.1
not_plain c line other utf8 has (inr (inl plain)) = has_none c line (none_in_blank line plain.1.1) has
not_plain c line other utf8 has (inr (inr plain)) = has_none c line plain.1.2 has

-- it asks for what its command asks for with its argument
its_meaning : (c : Command) (line argument : List ℕ) (other : Request) → is_utf8 line ≡ true → argument_of (word_of c) line ≡ Some argument → Sorted line other → Means c argument other
its_meaning c line argument other utf8 is (inl plain) = absurd (not_plain c line other utf8 (argument, is) plain)
its_meaning c line argument other utf8 is (inr its) =
    let same : its.command ≡ c = one_command c its.command line (argument, is) (its.argument, its.is) in
    let own : argument_of (word_of c) line ≡ Some its.argument = subst (λ (d : Command). argument_of (word_of d) line ≡ Some its.argument) same its.is in
    let one : Some its.argument ≡ Some argument = sym own ∙ is in
    let equal : its.argument ≡ argument = cc in
    subst (λ (a : List ℕ). Means c a other) equal (subst (λ (d : Command). Means d its.argument other) same its.means)

-- where its argument means one thing, the line asks for that alone
pub only_value : (c : Command) (argument : List ℕ) (q : value_of c) → writes_of c argument q → ((p : value_of c) → writes_of c argument p → p ≡ q) → AsksOnly (word_of c) argument (made_of c q)
only_value c argument q writes one line utf8 is other asks = by (its_meaning c line argument other utf8 is (sorted line other asks))
  where
    by : Means c argument other → other ≡ made_of c q
    by (inl (p, same, w)) = same ∙ ap (made_of c) (one p w)
    by (inr (byte, same, stops)) = absurd (stops.none q writes)

-- where its argument stops at a byte, the line asks for nothing else
pub only_stop : (c : Command) (argument : List ℕ) (byte : ℕ) → StopsAt (writes_of c) argument byte → AsksOnly (word_of c) argument (Stops byte)
only_stop c argument byte stops line utf8 is other asks = by (its_meaning c line argument other utf8 is (sorted line other asks))
  where
    by : Means c argument other → other ≡ Stops byte
    by (inl (q, same, w)) = absurd (stops.none q w)
    by (inr (b, same, s)) = same ∙ ap Stops (one_stop (writes_of c) argument b byte s stops)

-- a line that asks for the end asks for nothing else
pub only_end : (line : List ℕ) → IsRequest line Quit → IsOnly line Quit
only_end line asks =
    let has = white_argument (codes "QUIT") line asks.1 in
    only_value quit has.argument tt has.writes (λ p writes. refl) line asks.0 has.command

-- a line of text that has none of the commands asks for what such a line asks for
plain : (line : List ℕ) (other : Request) → has_one_of commands line ≡ false → Sorted line other → IsPlain line other
plain line other none (inl is) = is
plain line other none (inr its) = absurd (has_none its.command line none (its.argument, its.is))

-- a blank line asks for nothing else
pub only_blank : (line : List ℕ) → is_utf8 line ≡ true → is_blank line ≡ true → IsOnly line Blank
only_blank line utf8 blank other asks = by (plain line other (none_in_blank line blank) (sorted line other asks))
  where
    by : IsPlain line other → other ≡ Blank
    by (inl (is, not_text)) = absurd (not_both (is_utf8 line) utf8 not_text)
    by (inr (inl (is, here))) = is
    by (inr (inr (is, none))) = absurd (not_both (is_blank line) blank none.1)
