-- Laws of the names kept: the number of a name by its note, and the name table as it is written. Assumes nothing.
use mathlib.Core.Path.{◌≡◌, refl, sym, ap, ◌∙◌}
use mathlib.Core.List.{List, [], ◌∷◌, ◌++◌}
use Prim.Native.Nat.{ℕ, suc, ◌+◌, ◌-◌, ◌*◌, ◌<◌, ◌≤◌}
use native.Mathlib.Numerals.{add-one}
use native.Mathlib.Omega.{arith}
use native.Mathlib.Nat.{min-le_right}
use lib.ListN.{length, drop, get_or, drop_of_length-le, length-take, length-drop}
use lib.Seq.{drop-cons}
use Rattle.framed.specs.Symbols.{number_in}
use Rattle.source.specs.Positions.{part}
use Rattle.words.specs.Words.{word, set_word}
use Rattle.words.proofs.Laws.{set_size}
use Rattle.sweep.specs.Decides.{Short}
use Rattle.token_cache.specs.Cache.{note_at}
use Rattle.grammar.specs.Runs.{Sees}
use Rattle.grammar.specs.declared.Seen.{Seen}
use Rattle.names.specs.Kept.{table_of}
use Rattle.names.proofs.Laws.{table_length}
use Rattle.names.proofs.Notes.{leads_number}
use Rattle.table_updates.specs.Updates.{set_name_length, set_name_byte}
use Rattle.emission.specs.Emit.{write_name_bytes, write_names}
use Rattle.emit_names.specs.Table.{Ready, NameAt, write_kept}

-- ---- The number of a name by its note

pub noted_number : (c s b e : List ℕ) (n at a p : ℕ) → Ready c s b e n → NameAt s at a p → (g : ℕ) → g ≡ note_at c at → (g ≡ 0 → ⊥) → g - 1 ≡ number_in (table_of s b e n) (part s a p)
noted_number c s b e n at a p i t g eg ne = sym (leads_number i.led i.numbered (sym eg ∙ more g ne) t.read)
  where
    more : (g : ℕ) → (g ≡ 0 → ⊥) → g ≡ suc (g - 1)
    more g ne = omega arith

-- a name that was seen at a position
pub seen_name_at : (s : List ℕ) (at : ℕ) (t : Seen) → Sees s at t → t.kind ≡ 25 → NameAt s at t.begin t.end
seen_name_at s at t x e = record { value = t.word; read = rw e at (x.stands (omega arith)) }

-- ---- The bytes of a name

pub record Writing (p₀ : List ℕ) (k : ℕ) (w : List ℕ) (p : List ℕ) (i : ℕ) : Type 0 where
  pub size : length p ≡ length p₀
  pub is : write_name_bytes (drop i w) k i p ≡ write_name_bytes w k 0 p₀

pub writing_start : (p : List ℕ) (k : ℕ) (w : List ℕ) → Writing p k w p 0
writing_start p k w = record { size = refl; is = refl }

module _ (p₀ : List ℕ) (k : ℕ) (w p : List ℕ) (i : ℕ) (c : Writing p₀ k w p i) where
  bytes_on : i < length w → write_name_bytes (drop i w) k i p ≡ write_name_bytes (drop (i + 1) w) k (i + 1) (set_name_byte p k i (get_or w i 0))
  unfolding write_name_bytes
  bytes_on l =
      ap (λ (v : List ℕ). write_name_bytes v k i p) (drop-cons w i 0 l)
      ∙ ap (λ (j : ℕ). write_name_bytes (drop j w) k (i + 1) (set_name_byte p k i (get_or w i 0))) (sym (add-one i))

  pub writing_again : i < length w → (m : ℕ) → m ≡ k → (p' : List ℕ) → p' ≡ set_word p (65 + 17 * m + i) (get_or w i 0) → Writing p₀ k w p' (i + 1)
  unfolding set_name_byte
  writing_again l m em p' ep = record {
    size = ap length ep ∙ set_size p _ _ ∙ c.size;
    is = rw (ep, em) (sym (bytes_on l) ∙ c.is);
  }

  pub writing_done : length w ≤ i → p ≡ write_name_bytes w k 0 p₀
  unfolding write_name_bytes
  writing_done l = ap (λ (v : List ℕ). write_name_bytes v k i p) (sym (drop_of_length-le w l)) ∙ c.is

-- ---- The names

names_last : (ws : List (List ℕ)) (w : List ℕ) (j : ℕ) (p : List ℕ) →
    write_names (ws ++ (w ∷ [])) j p ≡ set_name_length (write_name_bytes w (j + length ws) 0 (write_names ws j p)) (j + length ws) (length w)
unfolding write_names
names_last [] w j p = rw (nothing j)
  where
    nothing : (j : ℕ) → j + 0 ≡ j
    nothing j = omega arith
names_last (v ∷ ws) w j p = names_last ws w (j + 1) _ ∙ rw (along j (length ws))
  where
    along : (j m : ℕ) → j + 1 + m ≡ j + suc m
    along j m = omega arith

bytes_size : (w : List ℕ) (k i : ℕ) (p : List ℕ) → length (write_name_bytes w k i p) ≡ length p
unfolding write_name_bytes set_name_byte
bytes_size [] k i p = refl
bytes_size (b ∷ w) k i p = bytes_size w k (i + 1) _ ∙ set_size p _ _

name_size : (w : List ℕ) (k n : ℕ) (p : List ℕ) → length (set_name_length (write_name_bytes w k 0 p) k n) ≡ length p
unfolding set_name_length
name_size w k n p = set_size _ _ _ ∙ bytes_size w k 0 p

pub record Listing (s b e p₀ : List ℕ) (n : ℕ) (p : List ℕ) (k : ℕ) : Type 0 where
  pub within : k ≤ n
  pub size : length p ≡ length p₀
  pub is : p ≡ write_names (table_of s b e k) 0 p₀

pub listing_start : (s b e : List ℕ) (n : ℕ) (p : List ℕ) → Listing s b e p n p 0
unfolding table_of write_names
listing_start s b e n p = record { within = omega arith; size = refl; is = refl }

part_short : (s : List ℕ) (a q : ℕ) (w : List ℕ) → Short s → w ≡ part s a q → Short w
unfolding part
part_short s a q w h e = record { short = rw (e, length-take (q - a) (drop a s), length-drop a s) (omega (arith, h.short, min-le_right (q - a) (length s - a))) }

module _ (s b e p₀ : List ℕ) (n : ℕ) (p : List ℕ) (k : ℕ) (c : Listing s b e p₀ n p k) where
  pub listing_done : n ≤ k → p ≡ write_names (table_of s b e n) 0 p₀
  listing_done l = c.is ∙ ap (λ (m : ℕ). write_names (table_of s b e m) 0 p₀) (equal k n c.within l)
    where
      equal : (k n : ℕ) → k ≤ n → n ≤ k → k ≡ n
      equal k n a b = omega arith

  pub listing_again : k < n → (p' : List ℕ) → p' ≡ write_kept s b e k p → Listing s b e p₀ n p' (k + 1)
  unfolding table_of write_kept
  listing_again l p' ep = record {
    within = omega arith;
    size = ap length ep ∙ name_size (part s (word b k) (word e k)) k (length (part s (word b k) (word e k))) p ∙ c.size;
    is = rw (add-one k) (ep ∙ rw c.is (sym (names_last (table_of s b e k) (part s (word b k) (word e k)) 0 p₀ ∙ rw (zero_plus (table_of s b e k), table_length s b e k))));
  }
    where
      zero_plus : (vs : List (List ℕ)) → 0 + length vs ≡ length vs
      zero_plus vs = omega arith

module _ (s b e : List ℕ) (k x y j j' : ℕ) (ej : j ≡ k) (ex : x ≡ word b j) (ej' : j' ≡ k) (ey : y ≡ word e j') (w : List ℕ) (ew : w ≡ part s x y) where
  pub kept_short : Short s → Short w
  kept_short h = part_short s x y w h ew

  pub kept_written : (p p' : List ℕ) → p' ≡ set_name_length (write_name_bytes w k 0 p) k (length w) → p' ≡ write_kept s b e k p
  unfolding write_kept
  kept_written p p' ep = ep ∙ rw (ew, ex, ey, ej, ej')

pub name_written : (p q p' w : List ℕ) (k : ℕ) → q ≡ write_name_bytes w k 0 p → p' ≡ set_name_length q k (length w) →
    p' ≡ set_name_length (write_name_bytes w k 0 p) k (length w)
name_written p q p' w k eq ep = ep ∙ rw eq
