-- States that come to life: the weights of a dead state are copied for those before it.
-- Assumes nothing.
use mathlib.Core.Path.{◌≡◌, refl, sym, ap, ap₂, subst, ◌∙◌}
use Prim.Native.Nat.{ℕ, ◌+◌, ◌≤◌, ◌<◌, max}
use native.Mathlib.Nat.{le_refl, le_trans, le_antisymm, max-le, le-max_left, le-max_right, max-eq_left, max-eq_right}
use native.Mathlib.Decide.{ℕ_discrete, dec_le}
use native.Mathlib.Omega.{arith}
use Rattle.ranks.specs.Algorithm.Tables.{Put}
use Rattle.fragment_pairs.specs.Algorithm.Pairs.{row_start_of, Born, Copied}
use Rattle.fragment_pairs.proofs.CornerLaws.{row-after, corner-row, corner-swap}
use Rattle.fragment_pairs.proofs.PairLaws.{square}

-- ---- one state

-- a place is in one row
one-row : (x y h l : ℕ) → y ≤ x → l ≤ h → row_start_of x + y ≡ row_start_of h + l → x ≡ h
one-row x y h l yx lh e = elim (ℕ_discrete x h) [
  | yes same ↦ same
  | no ne ↦ elim (dec_le x h) [
    | yes le ↦ let after = row-after x h (omega arith) in absurd (omega arith)
    | no nle ↦ let after = row-after h x (omega arith) in absurd (omega arith)
  ]
]

pub born-none : (v : ℕ → ℕ) (s : ℕ) → Born v v s (s + 1)
born-none v s = record { done = λ x sx xh. absurd (omega arith); rest = λ x y sy yx. refl }

-- one row more
pub born-more : {old now next : ℕ → ℕ} {begin : ℕ} (s h : ℕ) → Born old now s h → s < h → begin ≡ row_start_of h → Put now next (begin + s) (now (begin + (s + 1))) → Born old next s (h + 1)
born-more {old} {now} {next} s h born sh e put = record { done = done; rest = rest }
  where
    here : Put now next (row_start_of h + s) (now (row_start_of h + (s + 1)))
    here = subst (λ (x : ℕ). Put now next (x + s) (now (x + (s + 1)))) e put

    done : (x : ℕ) → s < x → x < h + 1 → next (row_start_of x + s) ≡ old (row_start_of x + (s + 1))
    done x sx xh = elim (ℕ_discrete x h) [
      | yes same ↦ rw same (here.here ∙ born.rest h (s + 1) (omega arith) (omega arith))
      | no ne ↦ here.there (row_start_of x + s) (λ e. ne (one-row x s h s (omega arith) (omega arith) e)) ∙ born.done x sx (omega arith)
    ]

    rest : (x y : ℕ) → s < y → y ≤ x → next (row_start_of x + y) ≡ old (row_start_of x + y)
    rest x y sy yx = here.there (row_start_of x + y) (λ e. let same = ap row_start_of (one-row x y h s yx (omega arith) e) in absurd (omega arith)) ∙ born.rest x y sy yx

-- the pair of the state with itself, after all rows
pub born-all : {old now next : ℕ → ℕ} {own other : ℕ} (s n h : ℕ) → Born old now s h → n < h → own ≡ row_start_of s → other ≡ row_start_of (s + 1)
    → Put now next (own + s) (now (other + (s + 1))) → Copied (square old) (square next) s (s + 1) n
born-all {old} {now} {next} {own} {other} s n h born nh eo et put = record { copied = copied }
  where
    here : Put now next (row_start_of s + s) (now (row_start_of (s + 1) + (s + 1)))
    here = subst (λ (x : ℕ). Put now next (row_start_of s + s) (now (x + (s + 1)))) et (subst (λ (x : ℕ). Put now next (x + s) (now (other + (s + 1)))) eo put)

    -- other pairs are not touched by it
    there : (x y : ℕ) → s < x → s ≤ y → y ≤ x → next (row_start_of x + y) ≡ now (row_start_of x + y)
    there x y sx sy yx = here.there (row_start_of x + y) (λ e. let same = one-row x y s s yx (le_refl s) e in absurd (omega arith))

    -- a pair with state s, and one without
    first : (x : ℕ) → s ≤ x → x ≤ n → next (row_start_of x + s) ≡ square old (max x (s + 1)) (s + 1)
    first x sx xn = elim (ℕ_discrete x s) [
      | yes same ↦ rw (same, max-eq_right {n = s} {m = s + 1} (omega arith)) (here.here ∙ born.rest (s + 1) (s + 1) (omega arith) (le_refl (s + 1)) ∙ ap old (sym (corner-row (s + 1) (s + 1) (le_refl (s + 1)))))
      | no ne ↦ rw (max-eq_left {n = x} {m = s + 1} (omega arith)) (there x s (omega arith) (le_refl s) sx ∙ born.done x (omega arith) (omega arith) ∙ ap old (sym (corner-row x (s + 1) (omega arith))))
    ]

    lower : (x y : ℕ) → s ≤ y → y ≤ x → x ≤ n → square next x y ≡ square old (max x (s + 1)) (max y (s + 1))
    lower x y sy yx xn = ap next (corner-row x y yx) ∙ elim (ℕ_discrete y s) [
      | yes same ↦ rw (same, max-eq_right {n = s} {m = s + 1} (omega arith)) (first x (omega arith) xn)
      | no ne ↦ rw (max-eq_left {n = x} {m = s + 1} (omega arith), max-eq_left {n = y} {m = s + 1} (omega arith))
          (there x y (omega arith) sy yx ∙ born.rest x y (omega arith) yx ∙ ap old (sym (corner-row x y yx)))
    ]

    copied : (x y : ℕ) → s ≤ x → s ≤ y → x ≤ n → y ≤ n → square next x y ≡ square old (max x (s + 1)) (max y (s + 1))
    copied x y sx sy xn yn = elim (dec_le y x) [
      | yes le ↦ lower x y sy le xn
      | no nle ↦ ap next (corner-swap x y) ∙ lower y x sx (omega arith) yn ∙ ap old (corner-swap (max y (s + 1)) (max x (s + 1)))
    ]

-- ---- several states, the latest first

pub copied_none : (v : ℕ → ℕ → ℕ) (d n : ℕ) → Copied v v d d n
copied_none v d n = record { copied = λ h l dh dl hn ln. ap₂ v (sym (max-eq_left dh)) (sym (max-eq_left dl)) }

max-after : (h s d : ℕ) → s ≤ d → max (max h s) d ≡ max h d
max-after h s d sd =
    le_antisymm (max-le (max-le (le-max_left h d) (le_trans sd (le-max_right h d))) (le-max_right h d)) (max-le (le_trans (le-max_left h s) (le-max_left (max h s) d)) (le-max_right (max h s) d))

pub copied_more : {old now next : ℕ → ℕ → ℕ} {t : ℕ} (s d n : ℕ) → t ≡ s + 1 → t ≤ d → d ≤ n → Copied old now t d n → Copied now next s (s + 1) n → Copied old next s d n
copied_more {old} {now} {next} {t} s d n e td dn before one = record { copied = copied }
  where
    sd : s + 1 ≤ d
    sd = omega arith

    copied : (h l : ℕ) → s ≤ h → s ≤ l → h ≤ n → l ≤ n → next h l ≡ old (max h d) (max l d)
    copied h l sh sl hn ln =
        one.copied h l sh sl hn ln
        ∙ (subst (λ (x : ℕ). Copied old now x d n) e before).copied (max h (s + 1)) (max l (s + 1)) (le-max_right h (s + 1)) (le-max_right l (s + 1)) (max-le hn (le_trans sd dn)) (max-le ln (le_trans sd dn))
        ∙ ap₂ old (max-after h (s + 1) d sd) (max-after l (s + 1) d sd)
