-- Lists of marks: as long as the sizes say, taken apart where parts meet, and read by number. Assumes nothing.
use mathlib.Core.Path.{◌≡◌, refl, subst}
use mathlib.Core.List.{List, [], ◌∷◌, ◌++◌}
use Prim.Native.Nat.{ℕ, ◌+◌}
use native.Mathlib.Omega.{arith}
use lib.ListN.{length, length-append, get_or}
use lib.Seq.{append_snoc, get_or-append_seam}
use Rattle.framed.specs.Tree.{Base, Expression, Slots, Instruction, Code, ◌then◌}
use Rattle.framed.specs.Paths.{Path, names_of}
use Rattle.shapes.specs.Numbers.{Numbers, zeros, ◌⊕◌, one_expression, one_instruction, one_code, more_names, base_size, expression_size, slots_size, instruction_size, code_size}
use Rattle.emission_tree.specs.Standing.{Owner, tag, Standing, Marks, ◌⊞◌, tagged, housed, named, Marked, base_marks, expression_marks, slots_marks, instruction_marks, code_marks}
use Rattle.emission.specs.Texts.{Listed}

-- ---- Lists by number

listed_at : {A : Type 0} (g : ℕ → A) (i j : ℕ) (l : List A) → i ≡ j → Listed g i l → Listed g j l
listed_at g i j l e h = subst (λ (k : ℕ). Listed g k l) e h

module _ {A : Type 0} (g : ℕ → A) where
  pub listed_first : (i : ℕ) (l m : List A) → Listed g i (l ++ m) → Listed g i l
  listed_first i [] m h = Listed.none
  listed_first i (a ∷ l) m (Listed.more e h) = Listed.more e (listed_first (i + 1) l m h)

  pub listed_rest : (i j : ℕ) (l m : List A) → j ≡ i + length l → Listed g i (l ++ m) → Listed g j m
  listed_rest i j [] m e h = listed_at g i j m (omega arith) h
  listed_rest i j (a ∷ l) m e (Listed.more f h) = listed_rest (i + 1) j l m (omega arith) h

-- a list read by number is listed
listed_moved : {A : Type 0} (d a : A) (l m : List A) → Listed (λ (i : ℕ). get_or (l ++ (a ∷ []) ++ m) i d) (length (l ++ (a ∷ []))) m → Listed (λ (i : ℕ). get_or (l ++ a ∷ m) i d) (length l + 1) m
listed_moved {A} d a l m h =
    subst (λ (k : List A). Listed (λ (i : ℕ). get_or k i d) (length l + 1) m) (append_snoc l a m) (listed_at _ _ _ m (length-append l (a ∷ [])) h)

pub listed_getD : {A : Type 0} (d : A) (l m : List A) → Listed (λ (i : ℕ). get_or (l ++ m) i d) (length l) m
listed_getD d l [] = Listed.none
listed_getD d l (a ∷ m) = Listed.more here (listed_moved d a l m (listed_getD d (l ++ (a ∷ [])) m))
  where
    here : get_or (l ++ a ∷ m) (length l) d ≡ a
    here = get_or-append_seam l a m d

-- ---- Sizes

pub record Sized (m : Marks) (s : Numbers) : Type 0 where
  pub tags : length m.tags ≡ s.expressions
  pub homes : length m.homes ≡ s.instructions
  pub names : length m.names ≡ s.codes

pub sized_more : (m n : Marks) (s t : Numbers) → Sized m s → Sized n t → Sized (m ⊞ n) (s ⊕ t)
sized_more m n s t a b =
    record {
      tags = omega (arith, length-append m.tags n.tags, a.tags, b.tags);
      homes = omega (arith, length-append m.homes n.homes, a.homes, b.homes);
      names = omega (arith, length-append m.names n.names, a.names, b.names);
    }

pub sized_tagged : (o : Owner) (c : ℕ) (m : Marks) (s : Numbers) → Sized m s → Sized (tagged o c m) (one_expression s)
sized_tagged o c m s a = record { tags = omega (arith, a.tags); homes = a.homes; names = a.names }

pub sized_housed : (k : ℕ) (m : Marks) (s : Numbers) → Sized m s → Sized (housed k m) (one_instruction s)
sized_housed k m s a = record { tags = a.tags; homes = omega (arith, a.homes); names = a.names }

sized_named : (x : ℕ) (m : Marks) (s : Numbers) → Sized m s → Sized (named x m) (one_code s)
sized_named x m s a = record { tags = a.tags; homes = a.homes; names = omega (arith, a.names) }

mutual
  unfolding base_marks base_size

  pub base_sized : (b : Base Path) (x c : ℕ) (s : Numbers) → Sized (base_marks b x c s) (base_size b)
  base_sized (Base.integer z) x c s = record { tags = refl; homes = refl; names = refl }
  base_sized (Base.string k) x c s = record { tags = refl; homes = refl; names = refl }
  base_sized (Base.path q) x c s = record { tags = refl; homes = refl; names = refl }
  base_sized (Base.code k is) x c s = sized_named _ _ _ (code_sized is k _)

  pub expression_sized : (e : Expression Path) (x c : ℕ) (s : Numbers) → Sized (expression_marks e x c s) (expression_size e)
  expression_sized (Expression.base b) x c s = base_sized b x c s
  expression_sized (Expression.not b) x c s = sized_tagged _ _ _ _ (base_sized b _ c _)
  expression_sized (Expression.operation o a b) x c s = sized_more _ _ _ _ (sized_tagged _ _ _ _ (base_sized a _ c _)) (sized_tagged _ _ _ _ (base_sized b _ c _))
  expression_sized (Expression.frame ss) x c s = slots_sized ss _ c s

  pub slots_sized : (ss : Slots Path) (o : Owner) (c : ℕ) (s : Numbers) → Sized (slots_marks ss o c s) (slots_size ss)
  slots_sized Slots.no_slots o c s = record { tags = refl; homes = refl; names = refl }
  slots_sized (Slots.slot n e ss) o c s = sized_more _ _ _ _ (sized_tagged _ _ _ _ (expression_sized e _ c _)) (slots_sized ss o c _)

  pub instruction_sized : (o : Instruction Path) (i k : ℕ) (s : Numbers) → Sized (instruction_marks o i k s) (instruction_size o)
  instruction_sized (Instruction.assign q e) i k s =
      let h = expression_sized e s.expressions (1 + k) (one_expression (more_names (length (names_of q)) s)) in
      record { tags = omega (arith, h.tags); homes = h.homes; names = h.names }
  instruction_sized (Instruction.show a) i k s = sized_tagged _ _ _ _ (base_sized a _ _ _)
  instruction_sized (Instruction.jump a b) i k s = sized_more _ _ _ _ (sized_tagged _ _ _ _ (base_sized a _ _ _)) (sized_tagged _ _ _ _ (base_sized b _ _ _))
  instruction_sized (Instruction.ifeq a b c) i k s =
      sized_more _ _ _ _ (sized_more _ _ _ _ (sized_tagged _ _ _ _ (base_sized a _ _ _)) (sized_tagged _ _ _ _ (base_sized b _ _ _)))
      (sized_tagged _ _ _ _ (base_sized c _ _ _))

  pub code_sized : (is : Code Path) (k : ℕ) (s : Numbers) → Sized (code_marks is k s) (code_size is)
  code_sized Code.finished k s = record { tags = refl; homes = refl; names = refl }
  code_sized (o then is) k s = sized_more _ _ _ _ (sized_housed _ _ _ (instruction_sized o _ k _)) (code_sized is k _)

-- ---- Taken apart

-- t is z further than s
pub record Follows (s z t : Numbers) : Type 0 where
  pub expressions : t.expressions ≡ s.expressions + z.expressions
  pub instructions : t.instructions ≡ s.instructions + z.instructions
  pub codes : t.codes ≡ s.codes + z.codes

module _ (γ : Standing) where
  pub marked_first : (s : Numbers) (m n : Marks) → Marked γ s (m ⊞ n) → Marked γ s m
  marked_first s m n h =
      record {
        tags = listed_first _ _ m.tags n.tags h.tags;
        homes = listed_first _ _ m.homes n.homes h.homes;
        names = listed_first _ _ m.names n.names h.names;
      }

  pub marked_rest : (s z t : Numbers) (m n : Marks) → Sized m z → Follows s z t → Marked γ s (m ⊞ n) → Marked γ t n
  marked_rest s z t m n a f h =
      record {
        tags = listed_rest _ _ _ m.tags n.tags (omega (arith, a.tags, f.expressions)) h.tags;
        homes = listed_rest _ _ _ m.homes n.homes (omega (arith, a.homes, f.instructions)) h.homes;
        names = listed_rest _ _ _ m.names n.names (omega (arith, a.names, f.codes)) h.names;
      }

  -- path names are not marked
  pub marked_names : (s : Numbers) (m : Marks) (n : ℕ) → Marked γ s m → Marked γ (more_names n s) m
  marked_names s m n h = record { tags = h.tags; homes = h.homes; names = h.names }

  head_is : {A : Type 0} (g : ℕ → A) (i : ℕ) (a : A) (l : List A) → Listed g i (a ∷ l) → g i ≡ a
  head_is g i a l (Listed.more e h) = e

  tail_is : {A : Type 0} (g : ℕ → A) (i : ℕ) (a : A) (l : List A) → Listed g i (a ∷ l) → Listed g (i + 1) l
  tail_is g i a l (Listed.more e h) = h

  module _ (s : Numbers) (m : Marks) where
    pub tag_is : (o : Owner) (c : ℕ) → Marked γ s (tagged o c m) → γ.tags s.expressions ≡ tag o c
    tag_is o c h = head_is _ _ _ _ h.tags

    pub past_tag : (o : Owner) (c : ℕ) → Marked γ s (tagged o c m) → Marked γ (one_expression s) m
    past_tag o c h = record { tags = tail_is _ _ _ _ h.tags; homes = h.homes; names = h.names }

    pub home_is : (k : ℕ) → Marked γ s (housed k m) → γ.homes s.instructions ≡ k
    home_is k h = head_is _ _ _ _ h.homes

    pub past_home : (k : ℕ) → Marked γ s (housed k m) → Marked γ (one_instruction s) m
    past_home k h = record { tags = h.tags; homes = tail_is _ _ _ _ h.homes; names = h.names }

    pub name_is : (x : ℕ) → Marked γ s (named x m) → γ.names s.codes ≡ x
    name_is x h = head_is _ _ _ _ h.names

    pub past_name : (x : ℕ) → Marked γ s (named x m) → Marked γ (one_code s) m
    past_name x h = record { tags = h.tags; homes = h.homes; names = tail_is _ _ _ _ h.names }

-- ---- Read by number

unfoldable pub standing : Marks → Standing
standing m =
    record {
      tags = λ (i : ℕ). get_or m.tags i (tag Owner.program 0);
      homes = λ (i : ℕ). get_or m.homes i 0;
      names = λ (i : ℕ). get_or m.names i 0;
    }

pub standing_marked : (m : Marks) → Marked (standing m) zeros m
unfolding standing
standing_marked m = record { tags = listed_getD _ [] m.tags; homes = listed_getD _ [] m.homes; names = listed_getD _ [] m.names }
