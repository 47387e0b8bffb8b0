use Rattle.std.proofs.Common.{◌≡◌, ℕ, ◌<◌, ◌≤◌, List, ◌++◌, map, length, take, drop, set, sym, ap, ◌∙◌, append-nil, arith, length-take}
use Rattle.std.specs.List.{range_with_len}
use Rattle.std.proofs.lemmas.List.{drop_all}
use Rattle.std.proofs.lemmas.List.FromFn.{length-map-range_with_len}
use Rattle.planner.proofs.Filling.{filled_more, short_answer, short_buffer, long_buffer}
use Rattle.planner.proofs.fill.fill.Goals as goal

pub returns-then-buffer-size-clause-answer : goal.returns-then-buffer-size-clause-answer
returns-then-buffer-size-clause-answer g c f h = sym (short_answer (map f (range_with_len 0 c.args.size)) c.args.buffer.now (omega (arith, length-map-range_with_len f 0 c.args.size)))

pub returns-then-buffer-size-clause-buffer : goal.returns-then-buffer-size-clause-buffer
returns-then-buffer-size-clause-buffer g c f h = sym (short_buffer (map f (range_with_len 0 c.args.size)) c.args.buffer.now (omega (arith, length-map-range_with_len f 0 c.args.size)))

pub loop-i-preserved : goal.loop-i-preserved
loop-i-preserved g c f h =
    let front = take c.args.size c.args.buffer.now in
    let inside : c.loop-i.i < c.args.size = omega (arith, length-take c.args.size c.args.buffer.now) in
    ap (λ (t : List ℕ). set t c.loop-i.i c.byte.result) (c.loop-i.invariant f h)
    ∙ filled_more f front c.loop-i.i c.byte.result c.loop-i-test.true (h c.loop-i.i c.byte.result inside c.byte.ensures)

pub returns-clause-buffer : goal.returns-clause-buffer
returns-clause-buffer g c f h =
    let n = c.args.size in
    let old = c.args.buffer.now in
    let front = take n old in
    let bs = map f (range_with_len 0 n) in
    let e : length bs ≡ n = length-map-range_with_len f 0 n in
    let long : length bs ≤ length old = omega arith in
    let i : c.loop-i.i ≡ n = omega (arith, length-take n old) in
    let none = drop_all n front (omega (arith, length-take n old)) in
    ap (λ (t : List ℕ). t ++ drop n old) (c.loop-i.invariant f h ∙ ap (λ (j : ℕ). map f (range_with_len 0 j) ++ drop j front) i ∙ ap (λ (t : List ℕ). bs ++ t) none ∙ append-nil bs)
    ∙ ap (λ (j : ℕ). bs ++ drop j old) (sym e)
    ∙ sym (long_buffer bs old long)
