-- Every outcome of a service can be read from its number for the host.
-- Assumes nothing.
use Rattle.std.specs.Prelude.{if◌then◌else◌, Result, Err}
use mathlib.Core.Path.{◌≡◌, refl, sym, ap, ap₂, subst, ◌∙◌}
use mathlib.Core.Bool.{Bool, true, false}
use mathlib.Core.Logic.{inl, inr}
use mathlib.Core.List.Memᴰ
use mathlib.Core.List.{List, [], ◌∷◌, ◌++◌, Memᴰ}
use Prim.Native.Nat.{ℕ, ◌+◌, ◌*◌, ◌/◌, ◌%◌, ◌≤◌, ◌<◌, zero-le}
use native.Mathlib.Nat.{mul_comm, mul-le-mul, le_refl, lt_of_le_of_lt}
use native.Mathlib.Omega.{arith}
use lib.Arith.{digits_div, digits_mod}
use lib.ListN.{length}
use Rattle.below.specs.Below.{◌<?◌, concat, tab}
use Rattle.fields.specs.Table.{fragments, part_start, position}
use Rattle.records.specs.declared.refusal.Refusal.{Refusal}
use Rattle.records.specs.Outcome.{Verdict, accepted, refused, number_of, outcome_of}
use Rattle.records.specs.Rules.{Rule, rule, decide, earlier_rules, span_rules, record_rules, gapless_rules, table_rules, gapless_table_rules, size_rules}
use Rattle.below.proofs.BelowLaws.{if-ind, if-true, if-false, lt-<?, le-isnt, sum-most, count-bound}
use Rattle.fields.proofs.GradeLaws.{weight-range}
use Rattle.below.proofs.MemberLaws.{concat-at, tab-at}
use Rattle.records.proofs.RuleLaws.{decide-append, decide-accepted, decide-refused}
use Rattle.records.proofs.AcceptedLaws.{few-columns, few-fragments}
use Rattle.conflicts.specs.Choice.{zeros, keep_all}
use Rattle.conflicts.specs.Grid.{Grid, grid_of, coverage}
use Rattle.conflicts.specs.Sides.{error_free}
use Rattle.conflicts.specs.Removal.{snp_keep_marks_of, fragment_keep_marks_of}
use Rattle.conflicts.specs.Corrections.{correction_cost, differs, cell_total, changed_total}
use Rattle.conflicts.specs.Services.{work_rules, length_rule, depth_rules, pack_size_rules, ungraded_rules, fragment_rules, unpack_rules, pack_rules, check_rules, conflict_counts_rules, removal_rules, correction_rules, unpack_leaves, pack_leaves, find_leaves, check_leaves, conflict_counts_leaves, snp_removal_leaves, fragment_removal_leaves, corrections_leaves, lent_stages, correction_stages}
use Rattle.conflicts.specs.Host.{host_number_of, host_read, HostFits}
use Rattle.conflicts.proofs.Minimality.{snp-in, fragments-in}
use Rattle.packing.proofs.SizeLaws.{pack-m}

-- ---- the encoding

-- an outcome that fits is read from its number, so no acceptance reads as a refusal
pub host-read : (base : ℕ) {v : Verdict} {r : ℕ} → HostFits base v → r ≡ host_number_of base v → host_read base r ≡ v
unfolding host_read
host-read base {v} h e = ap (host_read base) e ∙ go v h
  where
    turn : (number : ℕ) → base * number ≡ number * base
    turn number = mul_comm base number

    go : (v : Verdict) → HostFits base v → host_read base (host_number_of base v) ≡ v
    go (accepted count) h = if-true (count <? base) _ _ (lt-<? count base h)
    go (refused number place) h =
        let g = mul-le-mul (le_refl base) h.0 in
        if-false (base * number + place <? base) _ _ (le-isnt _ _ (omega arith))
        ∙ ap₂ refused (ap (λ (r : ℕ). (r + place) / base) (turn number) ∙ digits_div number h.1) (ap (λ (r : ℕ). (r + place) % base) (turn number) ∙ digits_mod number h.1)

-- a refusal's number has room in 64 bits
pub refused-room : {base number : ℕ} {outcome : Result ℕ Refusal} {r : Refusal} → base ≤ 4294967296 → HostFits base (outcome_of outcome) → outcome ≡ Err r → number ≡ number_of r.fault → number < 256
    → base * number + r.place < 18446744073709551616
refused-room {base} {number} {r = r} hb fits e same hn =
    let h = (subst (λ (o : Result ℕ Refusal). HostFits base (outcome_of o)) e fits).1 in
    let n : number ≤ 256 = omega arith in
    let g : base * number ≤ 4294967296 * 256 = mul-le-mul hb n in
    omega arith

-- ---- rules that a host can read

-- each has a number from 1 on and a place below the base
abbrev Named : ℕ → List Rule → Type 0
Named base rs = (r : Rule) → Memᴰ r rs → (1 ≤ r.number) × (r.place < base)

module _ {base : ℕ} where
  none_named : Named base []
  none_named r m = absurd (Memᴰ.not-nil m)

  one_more : {r : Rule} {rs : List Rule} → 1 ≤ r.number → r.place < base → Named base rs → Named base (r ∷ rs)
  one_more {r} h p rest s m = elim (Memᴰ.cases_cons m) [ inl e ↦ subst (λ (q : Rule). (1 ≤ q.number) × (q.place < base)) (sym e) (h, p) | inr k ↦ rest s k ]

  stage-more : (rs : List Rule) (stages : List (List Rule)) → Named base rs → Named base (concat stages) → Named base (concat (rs ∷ stages))
  unfolding concat
  stage-more rs stages w rest r m = elim (Memᴰ.append_cases rs m) [ inl h ↦ w r h | inr h ↦ rest r h ]

  rows_named : (f : ℕ → List Rule) (m : ℕ) → ((i : ℕ) → i < m → Named base (f i)) → Named base (concat (tab m f))
  rows_named f m w r h =
      let a = concat-at _ h in
      let b = tab-at f m a.1 in
      w b.0 b.1 r (subst (λ (rs : List Rule). Memᴰ r rs) b.2 a.2)

  decide-fits : (rs : List Rule) (v : Verdict) → Named base rs → HostFits base v → HostFits base (decide rs v)
  unfolding decide
  decide-fits [] v w h = h
  decide-fits (r ∷ rs) v w h = go (decide-fits rs v (λ s m. w s (Memᴰ.tail m)) h) r.broken
    where
      go : HostFits base (decide rs v) → (b : Bool) → HostFits base (if b then refused r.number r.place else decide rs v)
      go rest true = w r (Memᴰ.head refl)
      go rest false = rest

  -- what the later rules need may rest on the first ones
  after-fits : (rs : List Rule) (stages : List (List Rule)) (v : Verdict) → 0 < base → Named base rs → (decide rs (accepted 0) ≡ accepted 0 → HostFits base (decide (concat stages) v))
      → HostFits base (decide (concat (rs ∷ stages)) v)
  unfolding concat
  after-fits rs stages v z w rest = subst (HostFits base) (sym (decide-append rs (concat stages) v)) (go _ refl)
    where
      first : HostFits base (decide rs (accepted 0))
      first = decide-fits rs (accepted 0) w z

      go : (u : Verdict) → decide rs (accepted 0) ≡ u → HostFits base (decide rs (decide (concat stages) v))
      go (accepted k) e =
          subst (HostFits base) (sym (decide-accepted rs 0 k _ e)) (rest (decide-accepted rs 0 k (accepted 0) e))
      go (refused k p) e = subst (HostFits base) (e ∙ sym (decide-refused rs 0 k p _ e)) first

-- ---- the rules of the services

module _ {base : ℕ} (wide : 128 < base) where
  at-0 : 0 < base
  at-0 = omega arith

  sizes-named : (n : ℕ) (table : List ℕ) → Named base (size_rules n table)
  unfolding size_rules
  sizes-named n table = one_more (omega arith) at-0 (one_more (omega arith) at-0 (one_more (omega arith) at-0 none_named))

  length-named : (output : List ℕ) (exact : ℕ) (rs : List Rule) → Named base rs → Named base (length_rule output exact ∷ rs)
  unfolding length_rule
  length-named output exact rs w = one_more (omega arith) at-0 w

  work-named : (work : List ℕ) → Named base (work_rules work)
  unfolding work_rules
  work-named work = one_more (omega arith) at-0 none_named

  span-named : (n : ℕ) (table : List ℕ) (i : ℕ) (rs : List Rule) → i < base → Named base rs → Named base (span_rules n table i ++ rs)
  unfolding span_rules
  span-named n table i rs h w = one_more (omega arith) h (one_more (omega arith) h (one_more (omega arith) h (one_more (omega arith) h w)))

  earlier-named : (start tag : ℕ → ℕ) (i : ℕ) → i < base → Named base (earlier_rules start tag i)
  unfolding earlier_rules
  earlier-named start tag i h = one_more (omega arith) h (one_more (omega arith) h none_named)

  table-named : (n : ℕ) (table : List ℕ) → fragments table ≤ 128 → Named base (table_rules n table)
  unfolding table_rules record_rules
  table-named n table few = rows_named _ _ (λ i h. span-named n table i _ (omega arith) (earlier-named _ _ i (omega arith)))

  gapless-named : (n : ℕ) (table : List ℕ) → fragments table ≤ 128 → Named base (gapless_table_rules n table)
  unfolding gapless_table_rules gapless_rules
  gapless-named n table few = rows_named _ _ (λ i h. span-named n table i _ (omega arith) (one_more (omega arith) (omega arith) (earlier-named _ _ i (omega arith))))

  -- what follows rules 3, 1 and 2
  module _ (n : ℕ) (table : List ℕ) (stages : List (List Rule)) (count : ℕ) where
    sized-fits : (n ≤ 128 → fragments table ≤ 128 → Named base (concat stages) × (count < base)) → HostFits base (decide (concat (size_rules n table ∷ stages)) (accepted count))
    sized-fits rest = after-fits _ stages (accepted count) at-0 (sizes-named n table) λ e.
        let r = rest (few-columns n table 0 0 e) (few-fragments n table 0 0 e) in
        decide-fits (concat stages) (accepted count) r.0 r.1

  no-stage : Named base (concat [])
  unfolding concat
  no-stage = none_named

  -- the records, last
  records-named : (n : ℕ) (table : List ℕ) → fragments table ≤ 128 → Named base (concat (table_rules n table ∷ []))
  records-named n table few = stage-more _ _ (table-named n table few) no-stage

  depth-named : (g : Grid) → g.n ≤ 128 → Named base (depth_rules g)
  unfolding depth_rules
  depth-named g few = go g.n few
    where
      go : (n : ℕ) → n ≤ 128 → Named base (tab n (λ c. rule 12 c (8 <? coverage g c)))
      go n h r m = let b = tab-at _ n m in subst (λ (q : Rule). (1 ≤ q.number) × (q.place < base)) (sym b.2) (omega arith, let l = b.1 in omega arith)

  pack-sizes-named : (n : ℕ) (cells tags grades : List ℕ) → Named base (pack_size_rules n cells tags grades)
  unfolding pack_size_rules
  pack-sizes-named n cells tags grades = one_more (omega arith) at-0 (one_more (omega arith) at-0 (one_more (omega arith) at-0 none_named))

  fragment-named : (n : ℕ) (cells tags grades : List ℕ) (i : ℕ) → i < base → Named base (fragment_rules n cells tags grades i)
  unfolding fragment_rules ungraded_rules
  fragment-named n cells tags grades i h = one_more (omega arith) h (one_more (omega arith) h (one_more (omega arith) h (one_more (omega arith) h (earlier-named _ _ i h))))

  -- S's and F's, of any count
  removal-fits : (n : ℕ) (table answer work : List ℕ) (count : ℕ) → (n ≤ 128 → fragments table ≤ 128 → count < base) → HostFits base (decide (removal_rules n table answer work) (accepted count))
  unfolding removal_rules lent_stages
  removal-fits n table answer work count bound = sized-fits n table _ count λ hn hm.
      (stage-more _ _ (work-named work) (stage-more _ _ (length-named answer _ _ none_named) (stage-more _ _ (gapless-named n table hm) no-stage)), bound hn hm)

-- ---- the outcomes

zeros-le : (marks : List ℕ) → zeros marks ≤ length marks
unfolding zeros
zeros-le marks = count-bound (length marks) _

-- totals are at most 60 for each cell
total-le : (g h : Grid) → ((i : ℕ) → i < g.m → g.weight i ≤ 60) → changed_total g h ≤ g.m * (g.n * 60)
unfolding changed_total cell_total correction_cost
total-le g h light = sum-most g.m _ (g.n * 60) λ i hi. sum-most g.n _ 60 λ c hc. if-ind (λ x. x ≤ 60) (differs g h i c) (λ t. light i hi) (λ t. zero-le)

wide-host : 128 < 4294967296
wide-host = omega arith

pub unpack-fits : (n : ℕ) (table cells tags grades : List ℕ) → HostFits 4294967296 (unpack_leaves n table cells tags grades).outcome
unfolding unpack_leaves unpack_rules
unpack-fits n table cells tags grades = sized-fits wide-host n table _ _ λ hn hm.
    (stage-more _ _ (length-named wide-host cells _ _ (length-named wide-host tags _ _ (length-named wide-host grades _ _ none_named))) (records-named wide-host n table hm), omega arith)

pub pack-fits : (n : ℕ) (cells tags grades table : List ℕ) → HostFits 4294967296 (pack_leaves n cells tags grades table).outcome
unfolding pack_leaves pack_rules
pack-fits n cells tags grades table = after-fits _ _ _ (omega arith) (pack-sizes-named wide-host n cells tags grades) λ e.
    let few = pack-m (record { kept = decide-accepted (pack_size_rules n cells tags grades) 0 0 _ e }) in
    decide-fits _ _ (stage-more _ _ (length-named wide-host table _ _ none_named) (rows_named _ _ (λ i h. fragment-named wide-host n cells tags grades i (omega arith)))) (omega arith)

pub check-fits : (n : ℕ) (table answer : List ℕ) → HostFits 1000 (check_leaves n table answer).outcome
unfolding check_leaves check_rules
check-fits n table answer = sized-fits wide n table _ _ λ hn hm.
    (stage-more _ _ (length-named wide answer _ _ none_named) (records-named wide n table hm), yes_or_no (error_free 2 (grid_of n table) (keep_all (grid_of n table).n) (keep_all (grid_of n table).m)))
  where
    wide : 128 < 1000
    wide = omega arith

    yes_or_no : (yes : Bool) → (if yes then 0 else 1) < 1000
    yes_or_no true = omega arith
    yes_or_no false = omega arith

pub counts-fits : (n : ℕ) (table counts : List ℕ) → HostFits 4294967296 (conflict_counts_leaves n table counts).outcome
unfolding conflict_counts_leaves conflict_counts_rules
counts-fits n table counts = sized-fits wide-host n table _ _ λ hn hm.
    (stage-more _ _ (length-named wide-host counts _ _ none_named) (records-named wide-host n table hm), omega arith)

pub snp-fits : (n : ℕ) (table answer work : List ℕ) → HostFits 4294967296 (snp_removal_leaves n table answer work).outcome
unfolding snp_removal_leaves grid_of
snp-fits n table answer work = removal-fits wide-host n table answer work _ λ hn hm.
    let e = snp-in (grid_of n table) in let h = zeros-le (snp_keep_marks_of (grid_of n table)) in omega arith

pub fragment-fits : (n : ℕ) (table answer work : List ℕ) → HostFits 4294967296 (fragment_removal_leaves n table answer work).outcome
unfolding fragment_removal_leaves grid_of
fragment-fits n table answer work = removal-fits wide-host n table answer work _ λ hn hm.
    let e = fragments-in (grid_of n table) in let h = zeros-le (fragment_keep_marks_of (grid_of n table)) in omega arith

pub corrections-fits : (n : ℕ) (table answer output work : List ℕ) → HostFits 4294967296 (corrections_leaves n table answer output work).outcome
unfolding corrections_leaves correction_rules correction_stages lent_stages grid_of
corrections-fits n table answer output work = sized-fits wide-host n table _ _ λ hn hm. (
  stage-more _ _ (work-named wide-host work)
      (stage-more _ _ (length-named wide-host answer _ _ none_named)
      (stage-more _ _ (length-named wide-host output _ _ none_named)
      (stage-more _ _ (table-named wide-host n table hm) (stage-more _ _ (depth-named wide-host (grid_of n table) hn) (no-stage wide-host))))),
  lt_of_le_of_lt (total-le (grid_of n table) _ (λ i h. (weight-range _).1)) (lt_of_le_of_lt (mul-le-mul hm (mul-le-mul hn (le_refl 60))) (omega arith)),
)

-- ---- where find's part starts

module _ {i : ℕ} (tag : ℕ) (table : List ℕ) (e : i ≡ position tag table) where
  pub start-found : i < length table / 32 → 32 * i ≡ (find_leaves tag table).start
  unfolding find_leaves part_start fragments
  start-found h = ap (λ (k : ℕ). 32 * k) e ∙ sym (if-true (position tag table <? length table / 32) _ (length table) (lt-<? _ _ (subst (λ (k : ℕ). k < length table / 32) e h)))

  pub start-absent : length table / 32 ≤ i → length table ≡ (find_leaves tag table).start
  unfolding find_leaves part_start fragments
  start-absent h = sym (if-false (position tag table <? length table / 32) (32 * position tag table) _ (le-isnt _ _ (subst (λ (k : ℕ). length table / 32 ≤ k) e h)))
