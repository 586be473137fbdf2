use Rattle.std.proofs.Common.{◌≡◌, ◌<◌, ◌∙◌, ◌∷◌, ◌||◌, [], Bool, List, None, true, false, if◌then◌else◌, length, take, Some, slice_get, refl, sym, ap, subst}
use Rattle.std.specs.List.{AllByRecursion}
use Rattle.std.proofs.lemmas.Option.{slice_get_read}
use Rattle.design_ir.specs.declared.memory.MemRead.{MemRead}
use Rattle.design_ir.specs.declared.memory.Memory.{Memory}
use Rattle.design_ir.specs.Circuits.{is_among}
use Rattle.fragment_walks.specs.Marks.{is_marked, marked}
use Rattle.fragment_walks.specs.Reads.{data_signals}
use Rattle.fragment_walks.proofs.Lists.{all_unmapped, take_end}
use Rattle.fragment_walks.proofs.Markings.{length_marked, marked_at}
use Rattle.clock_domains.specs.declared.stop.ResolveStop.TheVariants.{TwoDrivers}
use Rattle.clock_domains.specs.Data.{is_taken, words}
use Rattle.clock_domains.specs.Resolved.{file_start, has_twice}
use Rattle.clock_domains.proofs.DataLaws.{data-append, data_one, item_inside, marked_next, taken_next, taken_told, taken_twice, told_free, told_not}
use Rattle.clock_domains.proofs.read_data.data_marks.Goals as goal

-- all data are of the vector
inside : (ms : List Memory) (marks : List Bool) → length marks ≡ 16384 → AllByRecursion (λ s. s < 16384) (data_signals ms) → AllByRecursion (λ s. s < length marks) (data_signals ms)
inside ms marks size h = subst (λ n. AllByRecursion (λ s. s < n) (data_signals ms)) (sym size) h

pub mark_new-requires : goal.mark_new-requires
mark_new-requires c =
    let ms = c.args.memories.now in
    let i = c.loop-memory.memory-index in
    let m = c.memory-item.result in
    let old = c.in_ok-marks.marks.items in
    let cur = c.loop-memory.marks.items in
    let at : slice_get ms i ≡ Some m = slice_get_read ms (length ms) i m refl c.loop-memory-test.true c.memory-item.is in
    let before = c.loop-memory.invariant in
    let there = item_inside data_signals data-append ms i m old cur at (inside ms old c.in_ok-marks.ensures.size c.requires) before.marks before.free in
    subst (AllByRecursion (λ (r : MemRead). r.word.0 < length cur)) (sym c.as_slice.ensures) (all_unmapped (λ s. s < length cur) (λ (r : MemRead). r.word.0) m.reads (subst (AllByRecursion (λ s. s < length cur)) (data_one m) there))

pub returns-then-not-mark_new-clause-refused : goal.returns-then-not-mark_new-clause-refused
returns-then-not-mark_new-clause-refused c =
    let ms = c.args.memories.now in
    let i = c.loop-memory.memory-index in
    let m = c.memory-item.result in
    let old = c.in_ok-marks.marks.items in
    let cur = c.loop-memory.marks.items in
    let at : slice_get ms i ≡ Some m = slice_get_read ms (length ms) i m refl c.loop-memory-test.true c.memory-item.is in
    let before = c.loop-memory.invariant in
    let own : data_signals (m ∷ []) ≡ words c.as_slice.result.now = data_one m ∙ ap words (sym c.as_slice.ensures) in
    let told : is_taken cur (words c.as_slice.result.now) ≡ true = told_not c.mark_new.result (is_taken cur (words c.as_slice.result.now)) c.mark_new.ensures.all c.if-not-mark_new.true in
    let twice : has_twice (data_signals ms) ≡ true =
    sym (taken_twice old (data_signals ms) c.in_ok-marks.ensures.each) ∙ taken_told data_signals data-append ms i m old cur at (inside ms old c.in_ok-marks.ensures.size c.requires) before.marks before.free (ap (is_taken cur) own ∙ told) in
    ap (λ b. if b then Some (TwoDrivers file_start) else None) twice ∙ ap (λ p. Some (TwoDrivers p)) (sym c.file_start.ensures)

pub loop-memory-preserved : goal.loop-memory-preserved
loop-memory-preserved c =
    let ms = c.args.memories.now in
    let i = c.loop-memory.memory-index in
    let m = c.memory-item.result in
    let old = c.in_ok-marks.marks.items in
    let cur = c.loop-memory.marks.items in
    let new = c.mark_new.new.marks.items in
    let at : slice_get ms i ≡ Some m = slice_get_read ms (length ms) i m refl c.loop-memory-test.true c.memory-item.is in
    let before = c.loop-memory.invariant in
    let own : data_signals (m ∷ []) ≡ words c.as_slice.result.now = data_one m ∙ ap words (sym c.as_slice.ensures) in
    let within = inside ms old c.in_ok-marks.ensures.size c.requires in
    record {
      free = taken_next data_signals data-append ms i m old cur at within before.marks before.free ∙ ap (is_taken cur) own ∙ told_free c.mark_new.result (is_taken cur (words c.as_slice.result.now)) c.mark_new.ensures.all c.if-not-mark_new.false;
      marks = marked_next data_signals data-append ms i m old cur at within before.marks before.free new (c.mark_new.ensures.marks c.if-not-mark_new.false ∙ ap (λ ss. marked ss cur) (sym own));
    }

pub returns-clause-accepted : goal.returns-clause-accepted
returns-clause-accepted c =
    let ms = c.args.memories.now in
    let ss = data_signals ms in
    let old = c.in_ok-marks.marks.items in
    let whole : take c.loop-memory.memory-index ms ≡ ms = take_end ms c.loop-memory.memory-index c.loop-memory-test.false in
    let all : c.loop-memory.marks.items ≡ marked ss old = c.loop-memory.invariant.marks ∙ ap (λ (xs : List Memory). marked (data_signals xs) old) whole in
    let once : has_twice ss ≡ false = sym (taken_twice old ss c.in_ok-marks.ensures.each) ∙ sym (ap (λ (xs : List Memory). is_taken old (data_signals xs)) whole) ∙ c.loop-memory.invariant.free in (
      ap (λ b. if b then Some (TwoDrivers file_start) else None) once,
      record {
        size = ap length all ∙ length_marked ss old ∙ c.in_ok-marks.ensures.size;
        each = λ s small. ap (λ ms. is_marked ms s) all ∙ marked_at ss old s (inside ms old c.in_ok-marks.ensures.size c.requires) ∙ ap (λ b. b || is_among ss s) (c.in_ok-marks.ensures.each s);
      },
    )
