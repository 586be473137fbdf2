use Rattle.std.proofs.Common.{◌≡◌, ◌<◌, ◌∙◌, ◌||◌, not, true, false, length, Some, slice_get, refl, sym, ap}
use Rattle.std.proofs.lemmas.Option.{slice_get_read, get_or_from_slice_get}
use Rattle.design_ir.specs.declared.memory.MemRead.{MemRead}
use Rattle.fragment_walks.specs.Marks.{is_marked}
use Rattle.fragment_walks.proofs.Lists.{all_mapped}
use Rattle.clock_domains.specs.Data.{words}
use Rattle.clock_domains.proofs.DataLaws.{item_inside, marked_next, taken_next, taken_told, words-append}
use Rattle.clock_domains.proofs.read_data.mark_new.Goals as goal

pub returns-then-index-clause-all : goal.returns-then-index-clause-all
returns-then-index-clause-all c =
    let rs = c.args.reads.now in
    let i = c.loop-read.read-index in
    let r = c.read-item.result in
    let old = c.args.marks.now.items in
    let cur = c.loop-read.marks.items in
    let at : slice_get rs i ≡ Some r = slice_get_read rs (length rs) i r refl c.loop-read-test.true c.read-item.is in
    let inside = all_mapped (λ s. s < length old) (λ (r : MemRead). r.word.0) rs c.requires in
    let before = c.loop-read.invariant in
    let there = item_inside words words-append rs i r old cur at inside before.marks before.free in
    let is : is_marked cur r.word.0 ≡ true = get_or_from_slice_get cur r.word.0 c.index.result.now false (slice_get_read cur (length cur) r.word.0 c.index.result.now refl there.0 c.index.ensures) ∙ c.if-index.true in
    sym (ap not (taken_told words words-append rs i r old cur at inside before.marks before.free (ap (λ b. b || false) is)))

pub loop-read-preserved : goal.loop-read-preserved
loop-read-preserved c =
    let rs = c.args.reads.now in
    let i = c.loop-read.read-index in
    let r = c.read-item.result in
    let old = c.args.marks.now.items in
    let cur = c.loop-read.marks.items in
    let at : slice_get rs i ≡ Some r = slice_get_read rs (length rs) i r refl c.loop-read-test.true c.read-item.is in
    let inside = all_mapped (λ s. s < length old) (λ (r : MemRead). r.word.0) rs c.requires in
    let before = c.loop-read.invariant in
    let there = item_inside words words-append rs i r old cur at inside before.marks before.free in
    let is : is_marked cur r.word.0 ≡ false = get_or_from_slice_get cur r.word.0 c.index.result.now false (slice_get_read cur (length cur) r.word.0 c.index.result.now refl there.0 c.index.ensures) ∙ c.if-index.false in
    record {
      free = taken_next words words-append rs i r old cur at inside before.marks before.free ∙ ap (λ b. b || false) is;
      marks = marked_next words words-append rs i r old cur at inside before.marks before.free c.mark.new.marks.items c.mark.ensures;
    }
