-- Names and literals as they are written. Assumes nothing.
use mathlib.Core.Path.{◌≡◌, refl, ◌∙◌}
use mathlib.Core.List.{List, [], ◌∷◌}
use Prim.Native.Nat.{ℕ, suc, ◌+◌, ◌*◌, ◌≤◌, ◌<◌}
use native.Mathlib.Omega.{arith}
use lib.ListN.{length, get_or}
use Rattle.words.specs.Words.{word}
use Rattle.tables.specs.Fields.{name_length, name_byte, literal_length, literal_byte}
use Rattle.table_updates.specs.Updates.{set_name_length, set_name_byte, set_literal_length, set_literal_byte}
use Rattle.table_updates.proofs.Laws.{Region, region_then, region_wider, set_name_length_region, set_name_byte_region, set_literal_length_region, set_literal_byte_region, name_length_set, name_byte_set, literal_length_set, literal_byte_set}
use Rattle.emission.specs.Emit.{write_name_bytes, write_names, write_literal_lengths, write_literal_bytes, write_literals}
use Rattle.emission.specs.Frame.{Same, Between}
use Rattle.emission.specs.Texts.{Listed, TextsAt}
use Rattle.emission.proofs.Sets.{same_in, same_before, region_writes}

-- no text is longer than n
pub record Short (n : ℕ) (ws : List (List ℕ)) : Type 0 where
  pub most : (k : ℕ) → k < length ws → length (get_or ws k []) ≤ n

short_first : (n : ℕ) (w : List ℕ) (ws : List (List ℕ)) → Short n (w ∷ ws) → length w ≤ n
short_first n w ws h = h.most 0 (omega arith)

short_rest : (n : ℕ) (w : List ℕ) (ws : List (List ℕ)) → Short n (w ∷ ws) → Short n ws
short_rest n w ws h = record { most = λ k lt. h.most (suc k) (omega arith) }

-- ---- Names

name_length_same : (k : ℕ) (v p : List ℕ) → word p (64 + 17 * k) ≡ word v (64 + 17 * k) → name_length p k ≡ name_length v k
unfolding name_length
name_length_same k v p e = e

name_byte_same : (k i : ℕ) (v p : List ℕ) → word p (65 + 17 * k + i) ≡ word v (65 + 17 * k + i) → name_byte p k i ≡ name_byte v k i
unfolding name_byte
name_byte_same k i v p e = e

name_bytes_region : (w : List ℕ) (k i : ℕ) (p : List ℕ) → Region p (write_name_bytes w k i p) (65 + 17 * k + i) (65 + 17 * k + i + length w)
unfolding write_name_bytes
name_bytes_region [] k i p = record { size = refl; away = λ j out. refl }
name_bytes_region (b ∷ w) k i p =
    region_then p (set_name_byte p k i b) (write_name_bytes w k (i + 1) (set_name_byte p k i b)) _ _
    (region_wider _ _ _ _ _ _ (set_name_byte_region p k i b) (omega arith) (omega arith))
    (region_wider _ _ _ _ _ _ (name_bytes_region w k (i + 1) (set_name_byte p k i b)) (omega arith) (omega arith))

-- one name
name_region : (w : List ℕ) (k : ℕ) (p : List ℕ) → length w ≤ 16 → Region p (set_name_length (write_name_bytes w k 0 p) k (length w)) (64 + 17 * k) (81 + 17 * k)
name_region w k p m =
    region_then p (write_name_bytes w k 0 p) _ _ _ (region_wider _ _ _ _ _ _ (name_bytes_region w k 0 p) (omega arith) (omega arith))
    (region_wider _ _ _ _ _ _ (set_name_length_region _ k _) (omega arith) (omega arith))

pub names_region : (ws : List (List ℕ)) (k : ℕ) (p : List ℕ) → Short 16 ws → Region p (write_names ws k p) (64 + 17 * k) (64 + 17 * (k + length ws))
unfolding write_names
names_region [] k p h = record { size = refl; away = λ j out. refl }
names_region (w ∷ ws) k p h =
    region_then p (set_name_length (write_name_bytes w k 0 p) k (length w)) _ _ _
    (region_wider _ _ _ _ _ _ (name_region w k p (short_first 16 w ws h)) (omega arith) (omega arith))
    (region_wider _ _ _ _ _ _ (names_region ws (k + 1) _ (short_rest 16 w ws h)) (omega arith) (omega arith))

name_bytes_held : (w : List ℕ) (k i : ℕ) (v p : List ℕ) → length v ≡ 16384 → k < 128 → i + length w ≤ 16 →
    Same (Between (65 + 17 * k + i) (65 + 17 * k + i + length w)) (write_name_bytes w k i v) p → Listed (name_byte p k) i w
unfolding write_name_bytes
name_bytes_held [] k i v p l lt m h = Listed.none
name_bytes_held (b ∷ w) k i v p l lt m h =
    Listed.more
    (name_byte_same k i _ p (h.same _ (record { from = omega arith; below = omega arith }))
    ∙ name_byte_same k i _ _ ((name_bytes_region w k (i + 1) (set_name_byte v k i b)).away _ (λ x y. omega arith))
    ∙ name_byte_set v k i b l lt (omega arith))
    (name_bytes_held w k (i + 1) (set_name_byte v k i b) p ((set_name_byte_region v k i b).size ∙ l) lt (omega arith)
    (same_in _ _ _ p h (λ j e. record { from = omega arith; below = omega arith })))

pub names_held : (ws : List (List ℕ)) (k : ℕ) (v p : List ℕ) → length v ≡ 16384 → k + length ws ≤ 128 → Short 16 ws →
    Same (Between (64 + 17 * k) (64 + 17 * (k + length ws))) (write_names ws k v) p → TextsAt (name_length p) (name_byte p) k ws
unfolding write_names
names_held [] k v p l m s h = TextsAt.none
names_held (w ∷ ws) k v p l m s h =
    let d = name_bytes_region w k 0 v in
    let f = short_first 16 w ws s in
    let h1 =
    same_before (Between (64 + 17 * k) (81 + 17 * k)) _ _ _ p (region_writes _ _ _ _ (names_region ws (k + 1) _ (short_rest 16 w ws s)))
    (same_in _ _ _ p h (λ j e. record { from = omega arith; below = omega arith })) (λ j a b. omega arith)
    in
    TextsAt.more
    (name_length_same k _ p (h1.same _ (record { from = omega arith; below = omega arith })) ∙ name_length_set _ k _ (d.size ∙ l) (omega arith))
    (name_bytes_held w k 0 v p l (omega arith) (omega arith)
    (same_before _ _ _ _ p (region_writes _ _ _ _ (set_name_length_region _ k _)) (same_in _ _ _ p h1 (λ j e. record { from = omega arith; below = omega arith }))
    (λ j a b. omega arith)))
    (names_held ws (k + 1) _ p ((name_region w k v f).size ∙ l) (omega arith) (short_rest 16 w ws s)
    (same_in _ _ _ p h (λ j e. record { from = omega arith; below = omega arith })))

-- ---- Literals

literal_length_same : (k : ℕ) (v p : List ℕ) → word p (2240 + k) ≡ word v (2240 + k) → literal_length p k ≡ literal_length v k
unfolding literal_length
literal_length_same k v p e = e

literal_byte_same : (k i : ℕ) (v p : List ℕ) → word p (64 * k + i) ≡ word v (64 * k + i) → literal_byte p k i ≡ literal_byte v k i
unfolding literal_byte
literal_byte_same k i v p e = e

pub literal_lengths_region : (ws : List (List ℕ)) (k : ℕ) (p : List ℕ) → Region p (write_literal_lengths ws k p) (2240 + k) (2240 + k + length ws)
unfolding write_literal_lengths
literal_lengths_region [] k p = record { size = refl; away = λ j out. refl }
literal_lengths_region (w ∷ ws) k p =
    region_then p (set_literal_length p k (length w)) _ _ _ (region_wider _ _ _ _ _ _ (set_literal_length_region p k _) (omega arith) (omega arith))
    (region_wider _ _ _ _ _ _ (literal_lengths_region ws (k + 1) _) (omega arith) (omega arith))

literal_region : (w : List ℕ) (k i : ℕ) (l : List ℕ) → Region l (write_literal_bytes w k i l) (64 * k + i) (64 * k + i + length w)
unfolding write_literal_bytes
literal_region [] k i l = record { size = refl; away = λ j out. refl }
literal_region (b ∷ w) k i l =
    region_then l (set_literal_byte l k i b) (write_literal_bytes w k (i + 1) (set_literal_byte l k i b)) _ _
    (region_wider _ _ _ _ _ _ (set_literal_byte_region l k i b) (omega arith) (omega arith))
    (region_wider _ _ _ _ _ _ (literal_region w k (i + 1) (set_literal_byte l k i b)) (omega arith) (omega arith))

pub literals_region : (ws : List (List ℕ)) (k : ℕ) (l : List ℕ) → Short 64 ws → Region l (write_literals ws k l) (64 * k) (64 * (k + length ws))
unfolding write_literals
literals_region [] k l h = record { size = refl; away = λ j out. refl }
literals_region (w ∷ ws) k l h =
    let f = short_first 64 w ws h in
    region_then l (write_literal_bytes w k 0 l) _ _ _ (region_wider _ _ _ _ _ _ (literal_region w k 0 l) (omega arith) (omega arith))
    (region_wider _ _ _ _ _ _ (literals_region ws (k + 1) _ (short_rest 64 w ws h)) (omega arith) (omega arith))

literal_held : (w : List ℕ) (k i : ℕ) (v l : List ℕ) → length v ≡ 8192 → k < 128 → i + length w ≤ 64 →
    Same (Between (64 * k + i) (64 * k + i + length w)) (write_literal_bytes w k i v) l → Listed (literal_byte l k) i w
unfolding write_literal_bytes
literal_held [] k i v l e lt m h = Listed.none
literal_held (b ∷ w) k i v l e lt m h =
    Listed.more
    (literal_byte_same k i _ l (h.same _ (record { from = omega arith; below = omega arith }))
    ∙ literal_byte_same k i _ _ ((literal_region w k (i + 1) (set_literal_byte v k i b)).away _ (λ x y. omega arith))
    ∙ literal_byte_set v k i b e lt (omega arith))
    (literal_held w k (i + 1) (set_literal_byte v k i b) l ((set_literal_byte_region v k i b).size ∙ e) lt (omega arith)
    (same_in _ _ _ l h (λ j e. record { from = omega arith; below = omega arith })))

pub literals_held : (ws : List (List ℕ)) (k : ℕ) (v p u l : List ℕ) → length v ≡ 16384 → length u ≡ 8192 → k + length ws ≤ 128 → Short 64 ws →
    Same (Between (2240 + k) (2240 + k + length ws)) (write_literal_lengths ws k v) p →
    Same (Between (64 * k) (64 * (k + length ws))) (write_literals ws k u) l → TextsAt (literal_length p) (literal_byte l) k ws
unfolding write_literal_lengths write_literals
literals_held [] k v p u l a b m s h g = TextsAt.none
literals_held (w ∷ ws) k v p u l a b m s h g =
    let f = short_first 64 w ws s in
    let g1 =
    same_before (Between (64 * k + 0) (64 * k + 0 + length w)) _ _ _ l (region_writes _ _ _ _ (literals_region ws (k + 1) _ (short_rest 64 w ws s)))
    (same_in _ _ _ l g (λ j e. record { from = omega arith; below = omega arith })) (λ j x y. omega arith)
    in
    TextsAt.more
    (literal_length_same k _ p (h.same _ (record { from = omega arith; below = omega arith }))
    ∙ literal_length_same k _ _ ((literal_lengths_region ws (k + 1) (set_literal_length v k (length w))).away _ (λ x y. omega arith))
    ∙ literal_length_set v k _ a (omega arith))
    (literal_held w k 0 u l b (omega arith) (omega arith) g1)
    (literals_held ws (k + 1) _ p _ l ((set_literal_length_region v k _).size ∙ a) ((literal_region w k 0 u).size ∙ b) (omega arith) (short_rest 64 w ws s)
    (same_in _ _ _ p h (λ j e. record { from = omega arith; below = omega arith }))
    (same_in _ _ _ l g (λ j e. record { from = omega arith; below = omega arith })))
