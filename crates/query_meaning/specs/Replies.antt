-- The replies to lines, except for grids. Numbers are in decimal.
use Rattle.std.specs.Prelude.{ℕ, ◌++◌, List, codes}
use Rattle.std.specs.Fmt.{decimal}
use Rattle.olap_meaning.specs.Texts.{line, named_line}
use Rattle.query_meaning.specs.Resolution.{Refusal, NoCube, NoMember, AxisTwice, MixedSet, TooManyCells}

-- the reply to a line that is longer than a line may be
abbrev pub too_long_reply : List ℕ
too_long_reply = line (codes "ERR 1 LINE 65536")

-- the reply to a line that is no text
abbrev pub not_text_reply : List ℕ
not_text_reply = line (codes "ERR 2 UTF8")

-- the reply to a line without a command
abbrev pub no_command_reply : List ℕ
no_command_reply = line (codes "ERR 3 COMMAND")

-- the reply to a line whose argument is none of its command's form, and stops at this byte
abbrev pub syntax_reply : ℕ → List ℕ
syntax_reply byte = line (codes "ERR 4 SYNTAX " ++ decimal byte)

-- the reply to a name that no cube has
abbrev pub no_cube_reply : List ℕ → List ℕ
no_cube_reply name = named_line (codes "ERR 5 CUBE") name

-- the reply to a name without a match
abbrev pub no_member_reply : List ℕ → List ℕ
no_member_reply name = named_line (codes "ERR 6 MEMBER") name

-- the reply to a query that means no axes, by its first refusal
abbrev pub refusal_reply : Refusal → List ℕ
refusal_reply (NoCube name) = no_cube_reply name
refusal_reply (NoMember name) = no_member_reply name
refusal_reply (AxisTwice hierarchy) = named_line (codes "ERR 7 AXIS TWICE") hierarchy
refusal_reply (MixedSet at) = line (codes "ERR 8 MIXED " ++ decimal at)
refusal_reply (TooManyCells count limit) =
    line (codes "ERR 9 CELLS " ++ decimal count ++ codes " " ++ decimal limit)

-- the reply to an append whose file is not there
abbrev pub no_file_reply : List ℕ → List ℕ
no_file_reply name = named_line (codes "ERR 10 FILE") name

-- the reply to an append whose file could not be read
abbrev pub source_reply : List ℕ → List ℕ
source_reply name = named_line (codes "ERR 11 SOURCE") name

-- the reply to an append whose batch is refused: what is told of it
abbrev pub refused_batch_reply : List ℕ → List ℕ
refused_batch_reply told = line (codes "ERR 12 BATCH " ++ told)

-- the reply where a cache does not have this many entries yet, but those of this front
abbrev pub not_yet_reply : ℕ → ℕ → List ℕ
not_yet_reply asked front =
    line (codes "ERR 14 NOT YET " ++ decimal asked ++ codes " " ++ decimal front)

-- the reply where there was no memory
abbrev pub no_memory_reply : List ℕ
no_memory_reply = line (codes "ERR 15 MEMORY")

-- the reply to a name that no aggregate table has
abbrev pub no_table_reply : List ℕ → List ℕ
no_table_reply name = named_line (codes "ERR 16 AGG") name

-- the reply to an append: the position of its entry, and the version that it made
abbrev pub version_reply : ℕ → ℕ → List ℕ
version_reply position version =
    line (codes "VERSION " ++ decimal position ++ codes " " ++ decimal version)

-- the reply where an aggregate table was built: the position of its entry, its version, and how many groups it has
abbrev pub built_reply : ℕ → ℕ → ℕ → List ℕ
built_reply position version groups =
    line
    (codes "AGG " ++ decimal position ++ codes " " ++ decimal version ++ codes " " ++ decimal groups)

-- the reply to a flush: the position of its entry
abbrev pub flushed_reply : ℕ → List ℕ
flushed_reply position = line (codes "FLUSHED " ++ decimal position)

-- the reply where a cache has as many entries as were asked for: how many it has
abbrev pub seen_reply : ℕ → List ℕ
seen_reply front = line (codes "SEEN " ++ decimal front)

-- the reply to a line that ends the session
abbrev pub quit_reply : List ℕ
quit_reply = line (codes "BYE")
