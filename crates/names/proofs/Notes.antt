-- Laws of the notes of a cache: each leads to the name that stands there. Assumes nothing.
use mathlib.Core.Path.{◌≡◌, refl, sym, ap, ◌∙◌}
use mathlib.Core.Bool.{Bool, true, false}
use mathlib.Core.List.{List}
use mathlib.Core.Logic.{⊎_elim}
use Prim.Native.Nat.{ℕ, suc, ◌+◌, ◌<◌, ◌≤◌}
use native.Mathlib.Omega.{arith}
use lib.Dec.{eqb}
use lib.ListN.{length}
use borrow.Author.Tests.{eqb-false}
use Rattle.framed.specs.Common.{when◌then◌else◌}
use Rattle.framed.specs.Bytes.{class}
use Rattle.framed.specs.Symbols.{number_in}
use Rattle.source.specs.Positions.{part}
use Rattle.words.specs.Words.{word}
use Rattle.token.specs.Reading.{TokenAt}
use Rattle.token.specs.declared.TokenRead.{TokenRead}
use Rattle.token.proofs.Unique.{one_answer}
use Rattle.token_cache.specs.Cache.{note_at, NotesFrom, Unnoted}
use Rattle.names.specs.Kept.{table_of, Numbered, KeptAs, Leads}
use Rattle.names.proofs.Numbers.{kept_here, kept_stays}

-- one name stands at a position
same_name : (s : List ℕ) (at a p w b q v : ℕ) → TokenAt class s at (TokenRead.Token 25 a p w) → TokenAt class s at (TokenRead.Token 25 b q v) → part s a p ≡ part s b q
same_name s at a p w b q v m n =
    let e = one_answer class s at (TokenRead.Token 25 a p w) (TokenRead.Token 25 b q v) (small (m.plain refl no_integer)) (small (n.plain refl no_integer)) m n in
    let ea : a ≡ b = cc in
    let ep : p ≡ q = cc in
    rw (ea, ep)
  where
    no_integer : ◌≡◌ {A = ℕ} 25 26 → ⊥
    no_integer z = omega arith

    small : {x : ℕ} → x ≡ 0 → x < 4294967296
    small z = omega arith

-- ---- The notes while the names are kept

pub leads_start : {c s b e : List ℕ} → Unnoted c → Leads c s b e 0
leads_start u = record { leads = λ at h a p w n t. absurd (omega (arith, u.none at, n)) }

-- an entry without a note
pub leads_other : {c c' s b e : List ℕ} {n at : ℕ} → Leads c s b e n → NotesFrom c c' at 0 → Leads c' s b e n
leads_other l f = record { leads = λ j h a p w g t. ⊎_elim (λ q. l.leads j h a p w q t) (λ q. absurd (omega (arith, q.1))) (f.from j h g) }

-- the entry of a name, with 1 and its number
module _ {c c' s b e hints b' e' hints' : List ℕ} {n at a p w r n' : ℕ} (l : Leads c s b e n) (t : TokenAt class s at (TokenRead.Token 25 a p w)) (f : NotesFrom c c' at (r + 1))
    (k : KeptAs s b e hints n a p b' e' hints' r) (en : n' ≡ (when eqb r n then n + 1 else n)) (lb : length b ≡ 129) (le : length e ≡ 129) (few : n ≤ 128) where
  pub leads_name : Leads c' s b' e' n'
  leads_name = record { leads = λ j h x q v g u. ⊎_elim (before j h x q v u) (λ z. here j h x q v u z.0 z.1) (f.from j h g) }
    where
      counted : (m : Bool) → eqb r n ≡ m → n' ≡ (when m then n + 1 else n) → (n ≤ n') × (r < n')
      counted true d z = (omega arith, omega (arith, (kept_here k lb le few).0))
      counted false d z = (omega arith, omega (arith, (kept_here k lb le few).0, eqb-false r n d))

      before : (j h x q v : ℕ) → TokenAt class s j (TokenRead.Token 25 x q v) → note_at c j ≡ suc h → (h < n') × (part s (word b' h) (word e' h) ≡ part s x q)
      before j h x q v u g =
          let z = l.leads j h x q v g u in
          (omega (arith, z.0, (counted (eqb r n) refl en).0), rw ((kept_stays k h z.0).0, (kept_stays k h z.0).1) z.1)

      here : (j h x q v : ℕ) → TokenAt class s j (TokenRead.Token 25 x q v) → j ≡ at → r + 1 ≡ suc h → (h < n') × (part s (word b' h) (word e' h) ≡ part s x q)
      here j h x q v u ej eh =
          let er : h ≡ r = omega arith in
          (omega (arith, (counted (eqb r n) refl en).1), rw er ((kept_here k lb le few).1 ∙ same_name s at a p w x q v t (rw ej at u)))

-- ---- The number of a name by its note

pub leads_number : {c s b e : List ℕ} {n at h a p w : ℕ} → Leads c s b e n → Numbered s b e n → note_at c at ≡ suc h → TokenAt class s at (TokenRead.Token 25 a p w) →
    number_in (table_of s b e n) (part s a p) ≡ h
leads_number {s = s} {b = b} {e = e} {n = n} {at = at} {h = h} {a = a} {p = p} {w = w} l i g t =
    let z = l.leads at h a p w g t in
    ap (number_in (table_of s b e n)) (sym z.1) ∙ i.own h z.0
