-- That `read_pairs` ensures what it says and keeps what holds at each turn.
use Rattle.std.proofs.Common.{◌≡◌, ◌∙◌, string_bytes, arith}
use Rattle.olap_server.proofs.WordFacts.{read_more, all_read}
use Rattle.olap_server.proofs.cell_command.read_pairs.Goals as goal

pub loop-i-preserved : goal.loop-i-preserved
loop-i-preserved c =
    let a = c.index-words-i.result in
    let b = c.index-words-i-in-loop-i.result in
    let column : c.in_ok-column.column ≡ string_bytes a = c.in_ok-column.ensures ∙ c.as_str.ensures.value in
    let value : c.in_ok-value.value ≡ string_bytes b = c.in_ok-value.ensures ∙ c.as_str-in-loop-i.ensures.value in
    let more = read_more string_bytes c.args.words.now c.loop-i.pairs c.loop-i.i a b (omega arith) c.index-words-i.is c.index-words-i-in-loop-i.is c.loop-i.invariant in
    rw (c.in_ok-push.ensures.ok, column, value) more

pub returns : goal.returns
returns c = all_read string_bytes c.args.words.now c.loop-i.pairs c.loop-i.i (omega arith) c.requires c.loop-i.invariant
