-- What the reader of flushes answers.
use Rattle.std.specs.Prelude.{◌≡◌, ℕ, List, Result, Ok, Err}
use Rattle.text_forms.specs.Forms.{StopsAt}
use Rattle.query_meaning.specs.declared.region_text.RegionText.{RegionText}
use Rattle.query_meaning.specs.WholeFlushes.{WritesFlush}
use Rattle.region_reader.specs.declared.reader.RegionTextFault.{RegionTextFault}
use Rattle.region_reader.specs.declared.reader.RegionTextFault.TheVariants.{SyntaxAt, OutOfMemory}

-- the flush that the text writes, which is its one flush; or the byte at which it stops, where it writes none; or a want
-- of memory
abbrev pub ReadsFlush : List ℕ → Result RegionText RegionTextFault → Type 0
ReadsFlush text (Ok flush) =
    WritesFlush text flush × ((other : RegionText) → WritesFlush text other → other ≡ flush)
ReadsFlush text (Err (SyntaxAt byte)) = StopsAt WritesFlush text byte
ReadsFlush text (Err OutOfMemory) = Unit {0}
