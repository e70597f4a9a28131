use mathlib.Core.Path.{◌≡◌, sym, ap, ◌∙◌}
use mathlib.Core.Bool.{Bool, false}
use Prim.Native.Nat.{ℕ}
use native.Mathlib.Omega.{arith}
use Rattle.below.specs.Below.{◌<?◌, ◌and◌}
use Rattle.places.specs.Algorithm.Places.{places_where}
use Rattle.fields.specs.Record.{span_of}
use Rattle.fields.specs.Algorithm.Letters.{calls_of}
use Rattle.records.specs.Rules.{has_stray_bits, has_unknown_call, has_open_end, gapped}
use Rattle.records.specs.Algorithm.Kept.{cell_rules}
use Rattle.records.proofs.RuleLaws.{rule-broken, rule-kept, decide-none}
use Rattle.records.proofs.SpanLaws.{calls_are, unknown-both, holes-gapped}
use Rattle.records.proofs.spans.cells_fault.Goals as goal
use Rattle.records.proofs.spans.cells_fault.Goals.{After-either-calls, After-first-inside, After-hole_refused, After-unknown_call, Else-open_end, Else-stray_bits, Else-unknown_call}

pub first-inside-requires : goal.first-inside-requires
first-inside-requires c = let e = c.span.ensures in let f = c.from.ensures in let p = c.requires in omega arith

-- the calls, and the places of the span
calls_is : (c : After-either-calls) → c.either-calls.result ≡ calls_of c.args.part.now
calls_is c = c.either-calls.ensures ∙ calls_are _ c.letters_of-letters.ensures

inside_is : (c : After-first-inside) → c.first-inside.result ≡ places_where (λ k. k <? span_of c.args.part.now)
inside_is c = c.first-inside.ensures ∙ ap (λ (e : ℕ). places_where (λ k. k <? e)) (c.from.ensures ∙ c.span.ensures)

pub stray_bits-requires : goal.stray_bits-requires
stray_bits-requires c = (calls_is (goal.at.stray_bits-requires c).After-either-calls, inside_is (goal.at.stray_bits-requires c).After-first-inside)

pub open_end-requires : goal.open_end-requires
open_end-requires c = (c.requires, calls_is (goal.at.open_end-requires c).After-either-calls)

-- 5 is kept where 6 is tested, and what the letters say of 6
kept-5 : (c : Else-stray_bits) → has_stray_bits c.args.part.now ≡ false
kept-5 c = sym c.stray_bits.ensures ∙ c.if-stray_bits.false

unknown-is : (c : After-unknown_call) → has_stray_bits c.args.part.now ≡ false → c.unknown_call.result ≡ has_unknown_call c.args.part.now
unknown-is c five = c.unknown_call.ensures ∙ unknown-both _ c.letters_of-letters.ensures c.requires five

-- 6 and 7 are kept where 8 is tested
kept-6 : (c : Else-unknown_call) → c.unknown_call.result ≡ has_unknown_call c.args.part.now → has_unknown_call c.args.part.now ≡ false
kept-6 c e = sym e ∙ c.if-unknown_call.false

kept-7 : (c : Else-open_end) → has_open_end c.args.part.now ≡ false
kept-7 c = sym c.open_end.ensures ∙ c.if-open_end.false

-- 6 and 7 are kept where 8 is tested
hole-is : (c : After-hole_refused)
    → let args = c.args in
    c.either-calls.result ≡ calls_of args.part.now → c.first-inside.result ≡ places_where (λ k. k <? span_of args.part.now) → has_unknown_call args.part.now ≡ false → has_open_end args.part.now ≡ false
    → c.hole_refused.result ≡ (args.gapless and gapped args.part.now)
hole-is c calls inside six seven = c.hole_refused.ensures ∙ ap (λ (b : Bool). c.args.gapless and b) (holes-gapped _ calls inside c.requires six seven)

pub returns-then-stray_bits : goal.returns-then-stray_bits
unfolding cell_rules
returns-then-stray_bits c = rw c.at.ensures (sym (rule-broken _ _ _ (sym c.stray_bits.ensures ∙ c.if-stray_bits.true)))

pub returns-then-unknown_call : goal.returns-then-unknown_call
unfolding cell_rules
returns-then-unknown_call c =
    let at = goal.at.returns-then-unknown_call c in
    let five = kept-5 at.Else-stray_bits in
    rw c.at-then-unknown_call.ensures (sym (rule-kept _ _ _ five ∙ rule-broken _ _ _ (sym (unknown-is at.After-unknown_call five) ∙ c.if-unknown_call.true)))

pub returns-then-open_end : goal.returns-then-open_end
unfolding cell_rules
returns-then-open_end c =
    let at = goal.at.returns-then-open_end c in
    let five = kept-5 at.Else-stray_bits in
    let six = kept-6 at.Else-unknown_call (unknown-is at.After-unknown_call five) in
    rw c.at-then-open_end.ensures (sym (rule-kept _ _ _ five ∙ rule-kept _ _ _ six ∙ rule-broken _ _ _ (sym c.open_end.ensures ∙ c.if-open_end.true)))

pub returns-then-hole_refused : goal.returns-then-hole_refused
unfolding cell_rules
returns-then-hole_refused c =
    let at = goal.at.returns-then-hole_refused c in
    let five = kept-5 at.Else-stray_bits in
    let six = kept-6 at.Else-unknown_call (unknown-is at.After-unknown_call five) in
    let seven = kept-7 at.Else-open_end in
    let hole = hole-is at.After-hole_refused (calls_is at.After-either-calls) (inside_is at.After-first-inside) six seven in
    rw c.at-then-hole_refused.ensures (sym (rule-kept _ _ _ five ∙ rule-kept _ _ _ six ∙ rule-kept _ _ _ seven ∙ rule-broken _ _ _ (sym hole ∙ c.if-hole_refused.true)))

pub returns : goal.returns
unfolding cell_rules
returns c =
    let at = goal.at.returns c in
    let five = kept-5 at.Else-stray_bits in
    let six = kept-6 at.Else-unknown_call (unknown-is at.After-unknown_call five) in
    let seven = kept-7 at.Else-open_end in
    let hole = hole-is at.After-hole_refused (calls_is at.After-either-calls) (inside_is at.After-first-inside) six seven in
    sym (rule-kept _ _ _ five ∙ rule-kept _ _ _ six ∙ rule-kept _ _ _ seven ∙ rule-kept _ _ _ (sym hole ∙ c.if-hole_refused.false) ∙ decide-none _)
