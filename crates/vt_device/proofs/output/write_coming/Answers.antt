use Rattle.std.proofs.Common.{◌≡◌, ℕ, ◌*◌, ◌≤◌, ◌<◌, List, length, take, nat_lt, true, false, subst, refl, ◌∙◌}
use Rattle.std.specs.Bool.{⊤}
use Rattle.std.proofs.Common.{arith, length-append, length-drop}
use Rattle.std.proofs.lemmas.List.{length-take, take-append-le}
use Rattle.std.proofs.lemmas.Grind.{common_steps}
use Rattle.std.proofs.KnownBytes.{Consumes-trans}
use Rattle.std.proofs.lemmas.Bool.Decides.{nat_tests}
use Rattle.vt_device.specs.Output.{IsWritten}
use Rattle.vt_device.proofs.Steps.{Moves-step, Moves-end, counted, passed, within-limit}
use Rattle.vt_device.proofs.OutputSteps.{come_more, chunk_stopped}
use Rattle.vt_device.proofs.output.write_coming.Goals as goal

pub loop-left-preserved : goal.loop-left-preserved
loop-left-preserved g c =
    let gives = c.if-not-write_chunk.ensures.gives in
    let long = simp length-take at c.read_chunk.auto.buf in
    let bound : c.in-Ok.count ≤ length c.read_chunk.new.buf = c.in-Ok.ensures.bound.0 in
    let within : c.in-Ok.count ≤ c.loop-left.left = omega (arith, long, bound, c.min-want.ensures) in
    let decodes = rw take-append-le at c.decode.ensures in
    let given = c.bytes.ensures in
    let all = rw take-append-le at given in
    let after = rw all at c.if-not-write_chunk.ensures.after in
    let writes = rw all at gives.holds.1 in
    let few = simp length-take at decodes.few in
    let size : length c.bytes.result.now ≤ 94152 * c.in-Ok.count =
    rw (rw take-append-le at given) (omega (arith, few)) in
    record {
      moved = Moves-step _ _ _ _ _ _ _ _ _ gives.w c.loop-left.invariant.moved c.in-Ok.ensures.bytes.0 gives.given
          (λ b w h. (
            counted b _ _ _ _ h.0 bound within,
            come_more _ _ _ _ _ _ _ _ _ _ _ _ b w _ _ _ decodes.came decodes.translates h.1 after writes,
          ));
      within = omega (arith, c.loop-left.invariant.within);
      reader_works = grind (arith, common_steps, c.in-Ok.ensures);
      reader_goes_on = grind (arith, common_steps, c.in-Ok.ensures);
      writer_works = gives.holds.0;
      takes = omega (arith, c.if-not-write_chunk.ensures.most, c.loop-left.invariant.takes);
      decodes = simp (length-append, length-drop)
          (omega (arith, long, c.min-want.ensures, decodes.most, c.loop-left.invariant.decodes));
      nothing = after.none;
      reserve = c.if-not-write_chunk.ensures.reserve ∙ c.loop-left.invariant.reserve;
      counted = omega (
        arith,
        size,
        within,
        c.if-not-write_chunk.ensures.counted,
        c.loop-left.invariant.counted,
        c.loop-left.invariant.within,
      );
      capacity = omega (arith, c.if-not-write_chunk.ensures.capacity, c.loop-left.invariant.capacity);
    }

pub returns-then-not-write_chunk-clause-moves : goal.returns-then-not-write_chunk-clause-moves
returns-then-not-write_chunk-clause-moves g c =
    let gives = c.if-not-write_chunk.ensures.gives in
    let long = simp length-take at c.read_chunk.auto.buf in
    let bound : c.in-Ok.count ≤ length c.read_chunk.new.buf = c.in-Ok.ensures.bound.0 in
    let within : c.in-Ok.count ≤ c.loop-left.left = omega (arith, long, bound, c.min-want.ensures) in
    let decodes = rw take-append-le at c.decode.ensures in
    let all = rw take-append-le at c.bytes.ensures in
    let part = rw all at gives.holds.1 in
    let works : g.S.Source.failed c.read_chunk.new.self ≡ false = grind (arith, common_steps, c.in-Ok.ensures) in
    let goes_on : g.S.Source.ended c.read_chunk.new.self ≡ false = grind (arith, common_steps, c.in-Ok.ensures) in
    let short : length (take c.in-Ok.count c.read_chunk.new.buf) ≤ length c.args.buffer.now =
    rw length-take (omega (arith, long, bound, c.min-want.ensures, c.loop-left.auto.buffer)) in
    Moves-step _ _ _ _ _ _ _ _ _ gives.w c.loop-left.invariant.moved c.in-Ok.ensures.bytes.0 gives.given
    (λ b w h.
    let size = counted b _ _ _ _ h.0 bound within in (
      record { reader_failed = works; reader_ended = goes_on; writer_failed = gives.holds.0 },
      omega (arith, size),
      chunk_stopped _ _ _ _ _ _ _ _ _ _ b w _ _ _ decodes.came decodes.translates h.1 short part,
    ))

pub returns-in-Ok-eq0-clause-moves : goal.returns-in-Ok-eq0-clause-moves
returns-in-Ok-eq0-clause-moves g c =
    let works : g.S.Source.failed c.read_chunk-2.new.self ≡ false = grind (arith, common_steps, c.in-Ok-eq0.ensures) in
    let one : 0 < length (take 1 c.loop-left.buffer) =
    rw length-take (omega (arith, c.requires.some_room, c.loop-left.auto.buffer)) in
    let asked : nat_lt 0 (length (take 1 c.loop-left.buffer)) ≡ true = grind (arith, nat_tests) in
    let ended : g.S.Source.ended c.read_chunk-2.new.self ≡ true =
    c.in-Ok-eq0.ensures.ended ∙ rw (c.loop-left.invariant.reader_goes_on, c.in-Ok-eq0.field-0-test, asked) refl in
    let none = rw c.in-Ok-eq0.field-0-test at c.in-Ok-eq0.ensures.bytes.0 in
    Moves-end _ _ _ _ _ _ _ c.loop-left.invariant.moved none (λ b w h. (
      record { reader_failed = works; reader_ended = ended; writer_failed = c.loop-left.invariant.writer_works },
      omega (arith, h.0),
      record { x = h.1.x; translates = h.1.translates; all = h.1.all; holds = h.1.after },
    ))

pub returns-in-Ok-read_chunk-clause-moves : goal.returns-in-Ok-read_chunk-clause-moves
returns-in-Ok-read_chunk-clause-moves g c =
    let long = simp length-take at c.read_chunk-2.auto.buf in
    let works : g.S.Source.failed c.read_chunk-2.new.self ≡ false = grind (arith, common_steps, c.in-Ok-read_chunk.ensures) in
    let goes_on : g.S.Source.ended c.read_chunk-2.new.self ≡ false =
    grind (arith, common_steps, c.in-Ok-read_chunk.ensures, c.in-Ok-read_chunk.field-0-test) in
    let moved = c.loop-left.invariant.moved in
    let total : length moved.b ≡ c.args.limit = omega (arith, moved.holds.0) in
    let come = moved.holds.1 in
    record {
      b = _;
      w = moved.w;
      taken = Consumes-trans _ _ _ moved.b _ moved.taken c.in-Ok-read_chunk.ensures.bytes.0;
      given = moved.given;
      holds = (
        record { reader_failed = works; reader_ended = goes_on; writer_failed = c.loop-left.invariant.writer_works },
        passed moved.b _ _ _ total c.in-Ok-read_chunk.ensures.bound.0 (omega (arith, long)) c.in-Ok-read_chunk.field-0-test.1,
        subst (λ (b : List ℕ). IsWritten g.D.Decoding.Translates (g.O.Output.written c.args.output.now) b moved.w (λ (x : List ℕ). ⊤))
            (within-limit moved.b _ c.args.limit total)
            (record { x = come.x; translates = come.translates; all = come.all; holds = tt }),
      );
    }

pub slice_bounds-read_chunk-end : goal.slice_bounds-read_chunk-end
slice_bounds-read_chunk-end g c = grind (arith, common_steps)

pub slice_bounds-read_chunk-end-in-loop-left : goal.slice_bounds-read_chunk-end-in-loop-left
slice_bounds-read_chunk-end-in-loop-left g c = grind (arith, common_steps)

pub slice_bounds-decode-end : goal.slice_bounds-decode-end
slice_bounds-decode-end g c = grind (arith, common_steps)

pub slice_bounds-decode-end-in-loop-left : goal.slice_bounds-decode-end-in-loop-left
slice_bounds-decode-end-in-loop-left g c = grind (arith, common_steps)

pub decode-requires-clause-some : goal.decode-requires-clause-some
decode-requires-clause-some g c = grind (arith, common_steps)

pub decode-requires-clause-short : goal.decode-requires-clause-short
decode-requires-clause-short g c = grind (arith, common_steps)

pub slice_bounds-bytes-end : goal.slice_bounds-bytes-end
slice_bounds-bytes-end g c = grind (arith, common_steps)

pub slice_bounds-bytes-end-in-loop-left : goal.slice_bounds-bytes-end-in-loop-left
slice_bounds-bytes-end-in-loop-left g c = grind (arith, common_steps)

pub overflow_sub-left : goal.overflow_sub-left
overflow_sub-left g c = grind (arith, common_steps)

pub loop-left-smaller : goal.loop-left-smaller
loop-left-smaller g c = grind (arith, common_steps)

pub slice_bounds-read_chunk-end-2 : goal.slice_bounds-read_chunk-end-2
slice_bounds-read_chunk-end-2 g c = grind (arith, common_steps)

pub slice_bounds-read_chunk-end-3 : goal.slice_bounds-read_chunk-end-3
slice_bounds-read_chunk-end-3 g c = grind (arith, common_steps)

pub returns-in_default-clause-whole : goal.returns-in_default-clause-whole
returns-in_default-clause-whole g c = grind (arith, common_steps)

pub returns-then-count-eq0-clause-whole : goal.returns-then-count-eq0-clause-whole
returns-then-count-eq0-clause-whole g c = grind (arith, common_steps)

pub returns-then-not-write_chunk-clause-whole : goal.returns-then-not-write_chunk-clause-whole
returns-then-not-write_chunk-clause-whole g c = grind (arith, common_steps)

pub returns-in-Ok-eq0-clause-whole : goal.returns-in-Ok-eq0-clause-whole
returns-in-Ok-eq0-clause-whole g c = grind (arith, common_steps)

pub returns-in-Ok-read_chunk-clause-whole : goal.returns-in-Ok-read_chunk-clause-whole
returns-in-Ok-read_chunk-clause-whole g c = grind (arith, common_steps)

pub returns-in-Err-clause-whole : goal.returns-in-Err-clause-whole
returns-in-Err-clause-whole g c = grind (arith, common_steps)

pub write_chunk-requires-clause-counts : goal.write_chunk-requires-clause-counts
write_chunk-requires-clause-counts g c =
    let long = simp length-take at c.read_chunk.auto.buf in
    let bound : c.in-Ok.count ≤ length c.read_chunk.new.buf = c.in-Ok.ensures.bound.0 in
    let within : c.in-Ok.count ≤ c.loop-left.left = omega (arith, long, bound, c.min-want.ensures) in
    let few = simp length-take at (rw take-append-le at c.decode.ensures.few) in
    let size : length c.bytes.result.now ≤ 94152 * c.in-Ok.count =
    rw (rw take-append-le at c.bytes.ensures) (omega (arith, few)) in
    omega (arith, size, within, c.loop-left.invariant.counted, c.loop-left.invariant.within, c.requires.limit_in_range)
