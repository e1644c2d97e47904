-- One law for each way through the functions of this crate. Assumes nothing.
use mathlib.Core.Path.{◌≡◌, refl}
use mathlib.Core.List.{List, []}
use Prim.Native.Nat.{ℕ, ◌*◌, ◌≤◌, ◌<◌}
use denote.Ref.{Bor}
use borrow.Author.Tests.{lt-ltb, le-ltb}
use Rattle.framed.specs.declared.Text.{Text}
use Rattle.framed.specs.declared.Value.{Value}
use Rattle.tables.specs.Fields.{literals, literal_length}
use Rattle.heap.specs.Words.{text_length}
use Rattle.texts.specs.Texts.{Inside}
use Rattle.look_path.specs.declared.Resolved.{Resolved}
use Rattle.look_part.specs.declared.Part.{Part}
use Rattle.look_part.specs.Part.{no_part, literal_part, made_part, text_part, value_part, part_found, PartOf, PartIs, InMemory}

-- ---- literal_part, made_part, text_part

module _ (p : List ℕ) (k c : ℕ) (ec : c ≡ literals p) where
  pub literal_past : c ≤ k → no_part ≡ literal_part p k
  unfolding literal_part
  literal_past le = rw (← ec, le-ltb k c le)

  pub literal_here : (a m n : ℕ) → k < c → a ≡ k → m ≡ literal_length p k → n ≡ m → Part.Literal (64 * a) n ≡ literal_part p k
  unfolding literal_part
  literal_here a m n lt ea em en = rw (← ec, lt-ltb k c lt, ea, en, em)

module _ (h : List ℕ) (k : ℕ) where
  pub made_past : 256 ≤ k → no_part ≡ made_part h k
  unfolding made_part
  made_past le = rw (le-ltb k 256 le)

  pub made_here : (a m n : ℕ) → k < 256 → a ≡ k → m ≡ text_length h k → n ≡ m → Part.Made (64 * a) n ≡ made_part h k
  unfolding made_part
  made_here a m n lt ea em en = rw (lt-ltb k 256 lt, ea, en, em)

module _ (p h : List ℕ) (x : Text) (k : ℕ) (r : Part) where
  pub text_literal : x ≡ Text.Literal k → r ≡ literal_part p k → r ≡ text_part p h x
  unfolding text_part
  text_literal e q = rw (e, q)

  pub text_made : x ≡ Text.Made k → r ≡ made_part h k → r ≡ text_part p h x
  unfolding text_part
  text_made e q = rw (e, q)

-- ---- part_found

module _ (p h : List ℕ) where
  pub found_nothing : (x : Resolved) → ((k : Value) → x ≡ Resolved.Found k → ⊥) → no_part ≡ part_found p h x
  unfolding part_found
  found_nothing (Resolved.Found v) o = absurd (o v refl)
  found_nothing Resolved.Undefined o = refl
  found_nothing Resolved.NotPath o = refl

  pub found_other : (x : Resolved) (v : Value) → x ≡ Resolved.Found v → ((k : Text) → v ≡ Value.Text k → ⊥) → no_part ≡ part_found p h x
  unfolding part_found value_part
  found_other x v e o = rw e (go v o)
    where
      go : (v : Value) → ((k : Text) → v ≡ Value.Text k → ⊥) → no_part ≡ value_part p h v
      go (Value.Int z) o = refl
      go (Value.Text t) o = absurd (o t refl)
      go (Value.Code k) o = refl
      go (Value.Frame f) o = refl

  pub found_text : (x : Resolved) (v : Value) (t : Text) (r : Part) → x ≡ Resolved.Found v → v ≡ Value.Text t → r ≡ text_part p h t → r ≡ part_found p h x
  unfolding part_found value_part
  found_text x v t r e ev er = rw (e, ev, er)

-- ---- part_bytes

module _ (l t : List ℕ) (x : Part) (i : InMemory l t x) (from n : ℕ) where
  pub literal_inside : x ≡ Part.Literal from n → Inside l from n
  unfolding InMemory
  literal_inside e = rw e at i

  pub made_inside : x ≡ Part.Made from n → Inside t from n
  unfolding InMemory
  made_inside e = rw e at i

module _ (l t : Bor (List ℕ)) (x : Part) (from n : ℕ) (r : Bor (List ℕ)) where
  pub literal_is : x ≡ Part.Literal from n → PartOf l from n r → PartIs l t x r
  unfolding PartIs
  literal_is e q = rw e q

  pub made_is : x ≡ Part.Made from n → PartOf t from n r → PartIs l t x r
  unfolding PartIs
  made_is e q = rw e q
