-- A value that tag and number give is valid exactly where they are well-formed; what a valid value names; what a view shows is in use. Assumes nothing.
use Prim.Native.Nat.{ℕ, ◌^◌, ◌≤◌, ◌<◌}
use mathlib.Core.Path.{◌≡◌, refl, ◌∙◌, sym}
use mathlib.Core.List.{List}
use mathlib.Core.Bool.{Bool, true, false}
use mathlib.Core.Option.{some}
use native.Mathlib.Omega.{arith}
use native.Mathlib.Decide.{dec_lt}
use lib.IntN.{ℤ}
use lib.Signed.{mag}
use borrow.Author.Tests.{lt-ltb, ltb-true}
use mir.Syntax.{w32}
use mir.Val.{SFits}
use Rattle.framed.specs.declared.Value.{Value}
use Rattle.framed.specs.Tokens.{in_range}
use Rattle.framed.specs.Program.{Program}
use Rattle.framed.specs.Values.{Frame, new_frame}
use Rattle.framed.proofs.General.{none≢some, some_inj}
use Rattle.heap.specs.Words.{value_of, frame_used, maker_at, text_used}
use Rattle.heap.specs.Held.{slots_held, text_held}
use Rattle.heap.specs.Closed.{ValueFits, FrameInUse, TextInUse, NamesInUse}
use Rattle.heap.proofs.Laws.{value_case}
use Rattle.bounded.specs.Views.{frame_at, text_at}
use Rattle.bounded.specs.Fits.{Valid, valid_integer, valid_literal, valid_made, valid_code, valid_frame}
use Rattle.allocation.specs.Allocation.{view_held}
use Rattle.allocation.proofs.Views.{shows_frame, shows_no_frame, shows_frame_past, shows_text, shows_no_text, shows_text_past}
use Rattle.frame_form.specs.declared.Limits.{Limits}
use Rattle.state_form.specs.Form.{ValueFormed}
use Rattle.state_form.proofs.Facts.{NamesThere}
use Rattle.word_store.specs.Form.{LimitsOf, ValuesAgree}

-- ---- What a view shows is in use

pub record FrameShown (h : List ℕ) (n : ℕ) (f : Frame) : Type 0 where
  pub in_use : FrameInUse h n
  pub is : f ≡ new_frame (maker_at h n) (slots_held h n)

pub record TextShown (h t : List ℕ) (k : ℕ) (bs : List ℕ) : Type 0 where
  pub in_use : TextInUse h k
  pub is : bs ≡ text_held h t k

module _ (h t : List ℕ) where
  pub frame_shown : (n : ℕ) (f : Frame) → frame_at (view_held h t) n ≡ some f → FrameShown h n f
  frame_shown n f e = go (dec_lt n 256) (frame_used h n) refl
    where
      go : Dec (n < 256) → (u : Bool) → frame_used h n ≡ u → FrameShown h n f
      go (no ge) u q = absurd (none≢some (sym (shows_frame_past h t n (omega arith)) ∙ e))
      go (yes lt) true q = record { in_use = record { small = lt; used = q }; is = some_inj (sym e ∙ shows_frame h t n lt q) }
      go (yes lt) false q = absurd (none≢some (sym (shows_no_frame h t n q) ∙ e))

  pub text_shown : (k : ℕ) (bs : List ℕ) → text_at (view_held h t) k ≡ some bs → TextShown h t k bs
  text_shown k bs e = go (dec_lt k 256) (text_used h k) refl
    where
      go : Dec (k < 256) → (u : Bool) → text_used h k ≡ u → TextShown h t k bs
      go (no ge) u q = absurd (none≢some (sym (shows_text_past h t k (omega arith)) ∙ e))
      go (yes lt) true q = record { in_use = record { small = lt; used = q }; is = some_inj (sym e ∙ shows_text h t k lt q) }
      go (yes lt) false q = absurd (none≢some (sym (shows_no_text h t k q) ∙ e))

-- ---- Values

range_fits : (z : ℤ) → in_range z ≡ true → SFits w32 z
range_fits z e = record { sfits = ltb-true (mag z) (2 ^ 31) e }

fits_range : (z : ℤ) → SFits w32 z → in_range z ≡ true
fits_range z f = lt-ltb (mag z) (2 ^ 31) f.sfits

apart : {A : Type 0} → ◌≡◌ {A = ℕ} 0 1 → A
apart e = absurd (omega arith)

-- what a valid value names is there, and its integer is one of 32 bits
pub record Named (h : List ℕ) (l : Limits) (v : Value) : Type 0 where
  pub in_use : NamesInUse h v
  pub there : NamesThere l v
  pub fits : ValueFits v

module _ (h t : List ℕ) (l : Limits) (q : Program) (e : LimitsOf l q) where
  pub valid_named : {v : Value} → Valid q (view_held h t) v → Named h l v
  valid_named (valid_integer {z = z} r) = record {
    in_use = record { frame = λ f p. apart (cc); made = λ k p. apart (cc) };
    there = record { literal = λ k p. apart (cc); code = λ k p. apart (cc) };
    fits = record { int = λ y p. let i : z ≡ y = cc in rw (← i) (range_fits z r) };
  }
  valid_named (valid_literal {k = n} r) = record {
    in_use = record { frame = λ f p. apart (cc); made = λ k p. apart (cc) };
    there = record { literal = λ k p. let i : n ≡ k = cc in rw (← i, e.literals) r; code = λ k p. apart (cc) };
    fits = record { int = λ y p. apart (cc) };
  }
  valid_named (valid_made {k = n} {bs = bs} r) = record {
    in_use = record { frame = λ f p. apart (cc); made = λ k p. let i : n ≡ k = cc in rw (← i) (text_shown h t n bs r).in_use };
    there = record { literal = λ k p. apart (cc); code = λ k p. apart (cc) };
    fits = record { int = λ y p. apart (cc) };
  }
  valid_named (valid_code {k = n} r) = record {
    in_use = record { frame = λ f p. apart (cc); made = λ k p. apart (cc) };
    there = record { literal = λ k p. apart (cc); code = λ k p. let i : n ≡ k = cc in rw (← i, e.codes) r };
    fits = record { int = λ y p. apart (cc) };
  }
  valid_named (valid_frame {n = n} {f = g} r) = record {
    in_use = record { frame = λ f p. let i : n ≡ f = cc in rw (← i) (frame_shown h t n g r).in_use; made = λ k p. apart (cc) };
    there = record { literal = λ k p. apart (cc); code = λ k p. apart (cc) };
    fits = record { int = λ y p. apart (cc) };
  }

  pub formed_valid : (tag n : ℕ) → ValueFormed h l tag n → Valid q (view_held h t) (value_of tag n)
  formed_valid tag n v =
      value_case (λ x. Valid q (view_held h t) x) tag n
      (λ p z f. valid_integer (fits_range z f))
      (λ p. valid_literal (rw (← e.literals) (v.literal p)))
      (λ p. let u = v.made p in valid_made (shows_text h t n u.small u.used))
      (λ p. valid_code (rw (← e.codes) (v.code p)))
      (λ p. let u = v.frame (let m = v.formed in omega arith) in valid_frame (shows_frame h t n u.small u.used))

  pub valid_formed : (tag n : ℕ) → tag ≤ 4 → Valid q (view_held h t) (value_of tag n) → ValueFormed h l tag n
  unfolding value_of
  valid_formed tag n le v =
      let m = valid_named v in
      record {
        formed = le;
        literal = λ p. m.there.literal n (rw p);
        made = λ p. m.in_use.made n (rw p);
        code = λ p. m.there.code n (rw p);
        frame = λ p. m.in_use.frame n (rw p);
      }

pub values_agree : ValuesAgree
values_agree h t l q e tag n = (λ v. (v.formed, formed_valid h t l q e tag n v), λ p. valid_formed h t l q e tag n p.0 p.1)
