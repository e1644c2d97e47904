-- What each way through an assignment that makes nothing gives. Assumes nothing.
use Prim.Native.Nat.{ℕ}
use mathlib.Core.Path.{◌≡◌, refl, ◌∙◌, sym}
use mathlib.Core.Bool.{Bool}
use mathlib.Core.List.{List}
use native.Mathlib.Omega.{arith}
use native.Mathlib.Decide.{ℕ_discrete}
use borrow.Author.Tests.{eq-eqb, ne_eqb}
use Rattle.std.specs.Prelude.{Option, Some, None, Ok, Err, Result as Checked}
use Rattle.framed.specs.declared.End.{End}
use Rattle.framed.specs.declared.Value.{Value}
use Rattle.framed.specs.Answers.{end_number, end_met as met}
use Rattle.paths.proofs.Exits.{end_positive}
use Rattle.framed.specs.Paths.{Path}
use Rattle.framed.specs.Machine.{right_side}
use Rattle.tables.specs.Fields.{instruction_a, instruction_b, instruction_c, instruction_after}
use Rattle.trees.specs.Trees.{path_list}
use Rattle.heap.specs.Words.{set_position}
use Rattle.wellformed.specs.WellFormed.{limits}
use Rattle.operators.specs.Operators.{Comparable}
use Rattle.checking.proofs.Laws.{assign_met, assign_put}
use Rattle.producing.specs.Producing.{HasRoom}
use Rattle.producing.proofs.Laws.{comparable_from}
use Rattle.commit.specs.Commit.{root_of, set_root, path_of, Assigns, assignment}
use Rattle.commit.specs.declared.Done.{Done}
use Rattle.commit.specs.Direct.{CanDo, CanDoEntry, MakesNothing, makes_frame, makes_text, end_met, Does}
use Rattle.commit.proofs.Laws.{sets_root, puts_root}
use Rattle.commit.proofs.Meaning.{Assignment, root_path}
use Rattle.commit.proofs.Direct.{made, ended, left, formed, writable, checks}
use Rattle.step_assign.specs.Assign.{Given, given, expression_given, PutsFrom}
use Rattle.step_assign.proofs.Values.{Still, MakesSome, a_frame, a_text, GivesValue, GivesEnd, Gives, expression_gives}

-- room for what makes nothing
room : (p l h t : List ℕ) (i : ℕ) → CanDo p l h t i → HasRoom h 0 0
unfolding limits
room p l h t i can = record {
  frames = let a = (formed p l h t i can).state.frames_few in let b = (formed p l h t i can).program.entries.limits.F_most in omega arith;
  texts = let a = (formed p l h t i can).state.texts_few in let b = (formed p l h t i can).program.entries.limits.T_most in omega arith;
}

module _ (p l h t : List ℕ) (i j n x : ℕ) (can : CanDo p l h t i) (root : Value) (path : Path) (s : Assignment p l h t i j n x root path) where
  nothing : Still p x → MakesNothing p i
  unfolding right_side
  nothing k = record { frames = rw s.tree k.frames; texts = rw s.tree k.texts }

  gives_means : (g : Given) → g ≡ expression_given p l h t x → Gives p l h t x g
  gives_means g eg = expression_gives p l h t x (writable p l h t i can) s.there (room p l h t i can) g eg

  value_ended : (e : End) → GivesEnd p l h t x (end_number e) → Does p l h t i (Err e) h
  value_ended e k = ended p l h t i e h (record {
    nothing = nothing k.still;
    end = s.checked (end_number e) (assign_met p l h t root j n x (end_number e) k.end (end_positive e));
    some = end_positive e;
    words = refl;
  })

  value_left : MakesSome p x → Does p l h t i (Ok Done.Left) h
  unfolding right_side
  value_left (a_frame f) = left p l h t i (makes_frame (rw s.tree f))
  value_left (a_text n) = left p l h t i (makes_text (rw s.tree n))

  module _ (v : Value) (k : GivesValue p l h t x v) (h₀ : List ℕ) (r : ℕ) (h₁ : List ℕ) (q : PutsFrom p h h₀ root j n v r h₁) where
    end_is : r ≡ end_met p l h t i
    end_is = s.checked r (assign_put p l h t root j n x 0 k.end r refl q.end)

    put_ended : (e : End) → r ≡ end_number e → Does p l h t i (Err e) h₁
    put_ended e is = ended p l h t i e h₁ (record {
      nothing = nothing k.still;
      end = sym is ∙ end_is;
      some = end_positive e;
      words = rw (ne_eqb r 0 (λ z. end_positive e (sym is ∙ z))) at q.words;
    })

    put_made : r ≡ 0 → (h₂ : List ℕ) → Assigns p l h t path x h₁ t → h₂ ≡ set_position h₁ (instruction_after p i) → Does p l h t i (Ok Done.Made) h₂
    put_made z h₂ a eh = made p l h t i h₂ (record {
      nothing = nothing k.still;
      end = sym z ∙ end_is;
      no_show = s.quiet;
      commits = s.done (writable p l h t i can) h₁ t h₂ a eh;
    })

module _ (p l h t : List ℕ) (i : ℕ) (own : Bool) (at : CanDoEntry p l h t i (assignment own (instruction_a p i) (instruction_b p i) (instruction_c p i))) where
  pub assign_comparable : Comparable p l h t
  assign_comparable = comparable_from p l h t (writable p l h t i at.can)

  module _ (x : ℕ) (ex : x ≡ instruction_c p i) (g : Checked (Option Value) End) (eg : given g ≡ expression_given p l h t x) where
    here : Assignment p l h t i (instruction_a p i) (instruction_b p i) x (root_of own h) (path_of own (path_list p (instruction_b p i) (instruction_a p i)))
    here = root_path p l h t i (instruction_a p i) (instruction_b p i) x (checks p l h t i at.can) at.can.there at.can.next own (rw ex at.entry)

    means : Gives p l h t x (given g)
    means = gives_means p l h t i (instruction_a p i) (instruction_b p i) x at.can _ _ here (given g) eg

    pub assign_ended : (e : End) → g ≡ Err e → Does p l h t i (Err e) h
    assign_ended e is = value_ended p l h t i (instruction_a p i) (instruction_b p i) x at.can _ _ here e (rw is at means)

    pub assign_left : g ≡ Ok None → Does p l h t i (Ok Done.Left) h
    assign_left is = value_left p l h t i (instruction_a p i) (instruction_b p i) x at.can _ _ here (rw is at means)

    module _ (v : Value) (is : g ≡ Ok (Some v)) (j n : ℕ) (ej : j ≡ instruction_a p i) (en : n ≡ instruction_b p i) {A : Type 0} (r : Checked A End) (h₁ : List ℕ)
        (q : PutsFrom p h (set_root own h v) (root_of own h) j n v (met r) h₁) where
      along : Assignment p l h t i j n x (root_of own h) (path_of own (path_list p n j))
      along = root_path p l h t i j n x (checks p l h t i at.can) at.can.there at.can.next own (rw (ex, ej, en) at.entry)

      value : GivesValue p l h t x v
      value = rw is at means

      -- the value put there
      assigns : met r ≡ 0 → Dec (n ≡ 0) → Assigns p l h t (path_of own (path_list p n j)) x h₁ t
      assigns z (yes e) = sets_root p l h t x v h t value.evaluates j n own e h₁ (rw (z, eq-eqb n 0 e) at q.words)
      assigns z (no ne) = puts_root p l h t x v h t value.evaluates j n ne (root_of own h) h₁ (rw (z, ne_eqb n 0 ne) at q.words) own refl

      pub assign_put_ended : (e : End) → r ≡ Err e → Does p l h t i (Err e) h₁
      assign_put_ended e ended = put_ended p l h t i j n x at.can _ _ along v value (set_root own h v) (met r) h₁ q e (rw ended)

      pub assign_made : (a : A) → r ≡ Ok a → (h₂ : List ℕ) → h₂ ≡ set_position h₁ (instruction_after p i) → Does p l h t i (Ok Done.Made) h₂
      assign_made a done h₂ eh =
          let z : met r ≡ 0 = rw done in
          put_made p l h t i j n x at.can _ _ along v value (set_root own h v) (met r) h₁ q z h₂ (assigns z (ℕ_discrete n 0)) eh
