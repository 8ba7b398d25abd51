-- What holds at each turn of `find_file`.
use Rattle.std.proofs.Common.{◌≡◌, drop}
use Rattle.outside.specs.Told.{file_named}
use Rattle.outside.proofs.memory.find_file.Given as goal

abbrev pub invariant-loop-file : goal.invariant-loop-file
invariant-loop-file l = file_named (drop l.file-index l.files) l.name ≡ file_named l.files l.name
