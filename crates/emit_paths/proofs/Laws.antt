-- Laws of the names of a path. Assumes nothing.
use mathlib.Core.Path.{◌≡◌, refl, sym, ap, ◌∙◌}
use mathlib.Core.Bool.{Bool, true, false}
use mathlib.Core.List.{List, [], ◌∷◌, ◌++◌}
use Prim.Native.Nat.{ℕ, suc, ◌+◌, ◌-◌, ◌<◌, ◌≤◌}
use native.Mathlib.Omega.{arith}
use Rattle.framed.specs.Common.{when◌then◌else◌}
use Rattle.framed.specs.Tree.{Written}
use Rattle.framed.specs.Paths.{names_of, resolve_path, names_up}
use Rattle.framed.specs.Paths as Paths
use Rattle.emit_steps.specs.declared.Place.{Place}
use lib.ListN.{length, length-append, take, drop, get_or, drop_of_length-le}
use lib.Seq.{drop-cons, length-take-le, get_or-take, take-take}
use native.Mathlib.Numerals.{add-one}
use Rattle.framed.specs.Tokens.{Fixed}
use Rattle.framed.specs.Symbols.{Symbol, number_in}
use Rattle.source.specs.Positions.{part}
use Rattle.framed.specs.Grammar.{Names⊢, Ups⊢, Path⊢}
use Rattle.words.proofs.Laws.{set_size}
use Rattle.token.specs.Reading.{fixed_kind}
use Rattle.sweep.specs.Kinds.{front_kind, kind_of}
use Rattle.grammar.specs.Runs.{Sees}
use Rattle.grammar.specs.declared.Seen.{Seen}
use Rattle.names.specs.Kept.{table_of}
use Rattle.table_updates.specs.Updates.{set_path_name}
use Rattle.emission.specs.Emit.{Emitting, emitting, emit_path, write_path}
use Rattle.emit_steps.specs.Steps.{one_more, numbers, go_to, place_of, PassTwo}
use Rattle.emit_steps.specs.declared.Next.{Next}
use Rattle.emit_steps.proofs.Laws.{more_one}
use Rattle.emit_paths.specs.Emits.{Ahead, Small, Emitted, Emits, NamesHere, arrived, DottedEmits, NoUp, UpsDone, UpsRead, HolderDone, PlaceOk, PathHere, UpHere, path_emitted}
use Rattle.emit_paths.specs.declared.PathEnd.{PathEnd}
use Rattle.emit_paths.specs.declared.Levels.{Levels}
use Rattle.emit_paths.proofs.Symbols.{cons_rest, pass_both, pass_no_up, nothing_ahead, seen_fixed, seen_name, seen_kind, seen_number, seen_moves, number_ahead}

-- no path names
emit_none : (p : List ℕ) (n : Next) → emitting p (numbers n) ≡ emit_path [] (emitting p (numbers n))
unfolding emit_path write_path
emit_none p n = ap (λ (j : ℕ). emitting p (record { expressions = n.expressions; instructions = n.instructions; path_names = j; codes = n.codes })) (plus_zero n.paths)
  where
    plus_zero : (j : ℕ) → j ≡ j + 0
    plus_zero j = omega arith

-- the first of more path names
emit_one : (p : List ℕ) (n : Next) (m u : ℕ) (ns : List ℕ) → n.paths < 4294967295 →
    emit_path (m ∷ ns) (emitting p (numbers n)) ≡ emit_path ns (emitting (set_path_name p n.paths m) (numbers (arrived n u (one_more n.paths))))
unfolding emit_path write_path
emit_one p n m u ns l = rw (← more_one n.paths l)
    (ap (λ (j : ℕ). emitting (write_path ns (n.paths + 1) (set_path_name p n.paths m)) (record { expressions = n.expressions; instructions = n.instructions; path_names = j; codes = n.codes })) (along n.paths (length ns)))
  where
    along : (j k : ℕ) → j + suc k ≡ j + 1 + k
    along j k = omega arith

-- where there are names, the next number is a word
room : (p : List ℕ) (n : Next) (m : ℕ) (ns : List ℕ) → Small (emit_path (m ∷ ns) (emitting p (numbers n))).next → n.paths < 4294967295
unfolding emit_path
room p n m ns h = go n.paths (length ns) h.path_names_small
  where
    go : (j k : ℕ) → j + suc k < 4294967296 → j < 4294967295
    go j k l = omega arith

-- what is emitted from here on is what is emitted from the start on
pub record DottedLeads (s : List ℕ) (table : List (List ℕ)) (from paths : ℕ) (p₀ : List ℕ) (at j : ℕ) (p : List ℕ) : Type 0 where
  pub size : length p ≡ length p₀
  pub back : (n : Next) (p' : List ℕ) (r : Next) → Emits NamesHere emit_path s table (arrived n at j) p p' r → Emits NamesHere emit_path s table (arrived n from paths) p₀ p' r

abbrev ended_at : ℕ → ℕ → PathEnd
ended_at at j = record { at = at; paths = j }

module _ (s b e : List ℕ) (count from paths : ℕ) (p₀ : List ℕ) where
  pub dotted_start : DottedLeads s (table_of s b e count) from paths p₀ from paths p₀
  dotted_start = record { size = refl; back = λ n p' r x. x }

  -- no more names where no step over a dot and a name is made
  no_more : (n : Next) (p : List ℕ) → ((m : ℕ) (us : List Symbol) → Ahead s (table_of s b e count) n (Symbol.fixed Fixed.dot ∷ Symbol.name m ∷ us) → ⊥) →
      Emits NamesHere emit_path s (table_of s b e count) n p p n
  no_more n p f = record { says = λ us vs ns h g l. go us vs ns h g.names; on = omega arith }
    where
      go : (us vs : List Symbol) (ns : List ℕ) → Ahead s (table_of s b e count) n us → Names⊢ us ns vs → Emitted s (table_of s b e count) (emit_path ns (emitting p (numbers n))) p n vs
      go us vs _ h Names⊢.none = record { is = emit_none p n; ahead = h }
      go _ vs _ h (Names⊢.more {n = m} {ts = ts} d) = absurd (f m ts h)

  module _ (at j : ℕ) (p : List ℕ) (i : DottedLeads s (table_of s b e count) from paths p₀ at j p) where
    ended : ((n : Next) (m : ℕ) (us : List Symbol) → Ahead s (table_of s b e count) (arrived n at j) (Symbol.fixed Fixed.dot ∷ Symbol.name m ∷ us) → ⊥) →
        DottedEmits s (table_of s b e count) from paths p₀ p (ended_at at j)
    ended f = record { says = λ n. i.back n p (arrived n at j) (no_more (arrived n at j) p (f n)) }

    pub dotted_end : length s ≤ at → DottedEmits s (table_of s b e count) from paths p₀ p (ended_at at j)
    dotted_end l = ended (λ n m us h. nothing_ahead s (table_of s b e count) (arrived n at j) Fixed.dot _ l h)

    module _ (d : Seen) (x : Sees s at d) where
      pub dotted_none : (d.kind ≡ 7 → ⊥) → DottedEmits s (table_of s b e count) from paths p₀ p (ended_at at j)
      unfolding front_kind kind_of fixed_kind
      dotted_none other = ended (λ n m us h. other (sym (seen_kind s (table_of s b e count) (arrived n at j) d x _ h)))

      module _ (is_dot : d.kind ≡ 7) (t : Seen) (y : Sees s d.end t) where
        pub dotted_half : (t.kind ≡ 25 → ⊥) → DottedEmits s (table_of s b e count) from paths p₀ p (ended_at at j)
        unfolding front_kind kind_of
        dotted_half other = ended (λ n m us h. other (sym (seen_kind s (table_of s b e count) (arrived n d.end j) t y _
            (seen_fixed s (table_of s b e count) (arrived n at j) d x Fixed.dot _ h).ahead)))

        pub dotted_less : at < length s → length s - t.end < length s - at
        dotted_less l = omega (arith, seen_moves s at d x (omega arith), y.on)

        module _ (is_name : t.kind ≡ 25) (k : ℕ) (z : k ≡ number_in (table_of s b e count) (part s t.begin t.end)) (p' : List ℕ) (ep : p' ≡ set_path_name p j k) where
          on_more : (n : Next) (pe : List ℕ) (r : Next) → Emits NamesHere emit_path s (table_of s b e count) (arrived n t.end (one_more j)) p' pe r →
              Emits NamesHere emit_path s (table_of s b e count) (arrived n at j) p pe r
          on_more n pe r f = record { says = λ us vs ns h g w. go us vs ns h g.names g.no_dot w; on = omega (arith, f.on, x.on, y.on) }
            where
              go : (us vs : List Symbol) (ns : List ℕ) → Ahead s (table_of s b e count) (arrived n at j) us → Names⊢ us ns vs → (front_kind vs ≡ 7 → ⊥) →
                  Small (emit_path ns (emitting p (numbers (arrived n at j)))).next → Emitted s (table_of s b e count) (emit_path ns (emitting p (numbers (arrived n at j)))) pe r vs
              go us vs _ h Names⊢.none nd w = absurd (nd (seen_kind s (table_of s b e count) (arrived n at j) d x us h ∙ is_dot))
              go _ vs _ h (Names⊢.more {n = m} {ns = ns} {ts = ts} g) nd w =
                  let h₁ = (seen_fixed s (table_of s b e count) (arrived n at j) d x Fixed.dot _ h).ahead in
                  let h₂ = (seen_name s (table_of s b e count) (arrived n d.end j) t y m ts h₁).ahead in
                  let em : k ≡ m = number_ahead s b e count (arrived n d.end j) m k ts (seen_number s b e count d.end t y k z) h₁ in
                  let same : emit_path (m ∷ ns) (emitting p (numbers (arrived n at j))) ≡ emit_path ns (emitting p' (numbers (arrived n t.end (one_more j)))) =
                  emit_one p (arrived n at j) m t.end ns (room p (arrived n at j) m ns w) ∙ rw (ep, em) in
                  rw same (f.says ts vs ns (record { tokens = h₂.tokens; reads = h₂.reads; are = h₂.are; few = h₂.few }) (record { names = g; no_dot = nd }) (rw same at w))

          pub dotted_again : (j' : ℕ) → j' ≡ one_more j → DottedLeads s (table_of s b e count) from paths p₀ t.end j' p'
          unfolding set_path_name
          dotted_again j' ej = rw ej (record { size = ap length ep ∙ set_size p _ _ ∙ i.size; back = λ n pe r f. i.back n pe r (on_more n pe r f) })

-- ---- Further `^`

pub record UpsLeads (s : List ℕ) (from depth at d : ℕ) : Type 0 where
  pub back : (r : Levels) → UpsRead s at d r → UpsRead s from depth r

pub ups_start : (s : List ℕ) (from depth : ℕ) → UpsLeads s from depth from depth
ups_start s from depth = record { back = λ r x. x }

abbrev left_at : ℕ → ℕ → Levels
left_at at d = record { at = at; levels = d }

no_ups : (s : List ℕ) (at d : ℕ) → ((table : List (List ℕ)) (n : Next) (us : List Symbol) → n.at ≡ at → Ahead s table n (Symbol.fixed Fixed.dot ∷ Symbol.fixed Fixed.up ∷ us) → ⊥) →
    UpsRead s at d (left_at at d)
no_ups s at d f = record { says = λ table n us vs k e h g u. go table n us vs k e h g; on = omega arith }
  where
    go : (table : List (List ℕ)) (n : Next) (us vs : List Symbol) (k : ℕ) → n.at ≡ at → Ahead s table n us → Ups⊢ us k vs → UpsDone s table n d k vs (left_at at d)
    go table n us vs _ e h Ups⊢.none = record { ahead = record { tokens = h.tokens; reads = rw (← e) h.reads; are = h.are; few = h.few }; levels_are = omega arith }
    go table n _ vs _ e h (Ups⊢.more {ts = ts} g) = absurd (f table n ts e h)

module _ (s : List ℕ) (from depth at d : ℕ) (i : UpsLeads s from depth at d) where
  pub ups_end : length s ≤ at → UpsRead s from depth (left_at at d)
  ups_end l = i.back _ (no_ups s at d (λ table n us e h. nothing_ahead s table n Fixed.dot _ (rw e l) h))

  module _ (q : ℕ) (x : PassTwo s at 7 8 q) where
    pub ups_none : q ≤ at → UpsRead s from depth (left_at at d)
    unfolding fixed_kind
    ups_none l = i.back _ (no_ups s at d (λ table n us e h. stop n e (pass_both s table n q Fixed.dot Fixed.up us (rw e x) h).further))
      where
        stop : (n : Next) → n.at ≡ at → n.at < q → ⊥
        stop n e h = omega arith

    more_ups : at < q → (d' : ℕ) → d' ≡ d - 1 → (r : Levels) → UpsRead s q d' r → UpsRead s at d r
    unfolding fixed_kind
    more_ups l d' ed r y = record { says = λ table n us vs k e h g u. go table n us vs k e h g u; on = omega (arith, y.on) }
      where
        stop : (n : Next) → n.at ≡ at → q ≡ n.at → ⊥
        stop n e h = omega arith

        fewer : (k x : ℕ) → x ≡ d' - k → x ≡ d - suc k
        fewer k x e = omega arith

        go : (table : List (List ℕ)) (n : Next) (us vs : List Symbol) (k : ℕ) → n.at ≡ at → Ahead s table n us → Ups⊢ us k vs → NoUp vs → UpsDone s table n d k vs r
        go table n us vs _ e h Ups⊢.none u = absurd (stop n e (pass_no_up s table n q us (rw e x) h u))
        go table n _ vs _ e h (Ups⊢.more {k = k} {ts = ts} g) u =
            let z = y.says table (go_to n q) ts vs k refl (pass_both s table n q Fixed.dot Fixed.up ts (rw e x) h).ahead g u in
            record { ahead = z.ahead; levels_are = fewer k r.levels z.levels_are }

    pub ups_again : at < q → (d' : ℕ) → d' ≡ d - 1 → UpsLeads s from depth q d'
    ups_again l d' ed = record { back = λ r y. i.back r (more_ups l d' ed r y) }

-- ---- The names of a place

pub record Holding (names : List ℕ) (levels paths : ℕ) (p₀ : List ℕ) (j : ℕ) (p : List ℕ) (i : ℕ) : Type 0 where
  pub within : i ≤ levels
  pub size : length p ≡ length p₀
  pub next : paths + levels < 4294967296 → j ≡ paths + i
  pub words : levels ≤ 16 → length names ≡ 16 → paths + levels < 4294967296 →
      write_path (take levels names) paths p₀ ≡ write_path (drop i (take levels names)) j p

pub holding_start : (names : List ℕ) (levels paths : ℕ) (p : List ℕ) → Holding names levels paths p paths p 0
holding_start names levels paths p = record { within = omega arith; size = refl; next = λ c. omega arith; words = λ a b c. refl }

module _ (names : List ℕ) (levels paths : ℕ) (p₀ : List ℕ) (j : ℕ) (p : List ℕ) (i : ℕ) (h : Holding names levels paths p₀ j p i) where
  long : levels ≤ 16 → length names ≡ 16 → length (take levels names) ≡ levels
  long a b = length-take-le levels names (omega arith)

  pub holding_done : levels ≤ i → HolderDone names levels paths p₀ p j
  unfolding write_path
  holding_done l = record {
    words = λ a b c. sym (h.words a b c ∙ ap (λ (ns : List ℕ). write_path ns j p) (drop_of_length-le (take levels names) {i = i} (omega (arith, long a b))));
    next = λ a c. omega (arith, h.next c, h.within);
  }

  module _ (l : i < levels) where
    pub holding_full : 16 ≤ i → HolderDone names levels paths p₀ p j
    holding_full f = record { words = λ a b c. absurd (over a); next = λ a c. absurd (over a) }
      where
        over : levels ≤ 16 → ⊥
        over a = omega arith

    module _ (k v : ℕ) (ek : k ≡ i) (ev : v ≡ get_or names k 0) (p' : List ℕ) (ep : p' ≡ set_path_name p j v) (j' : ℕ) (ej : j' ≡ one_more j) where
      cons_is : levels ≤ 16 → length names ≡ 16 → drop i (take levels names) ≡ v ∷ drop (i + 1) (take levels names)
      cons_is a b = rw (add-one i) (drop-cons (take levels names) i 0 (omega (arith, long a b)) ∙ rw (get_or-take levels names i 0 l, ev, ek))

      one_on : paths + levels < 4294967296 → j' ≡ j + 1
      one_on c = ej ∙ sym (more_one j (omega (arith, h.next c)))

      pub holding_again : Holding names levels paths p₀ j' p' (i + 1)
      unfolding set_path_name write_path
      holding_again = record {
        within = omega arith;
        size = ap length ep ∙ set_size p _ _ ∙ h.size;
        next = λ c. omega (arith, h.next c, one_on c);
        words = λ a b c. h.words a b c ∙ ap (λ (ns : List ℕ). write_path ns j p) (cons_is a b) ∙ rw (ep, one_on c);
      }

-- ---- A path that begins with `^`

write_append : (xs ys : List ℕ) (j : ℕ) (p : List ℕ) → write_path (xs ++ ys) j p ≡ write_path ys (j + length xs) (write_path xs j p)
unfolding write_path
write_append [] ys j p = ap (λ (i : ℕ). write_path ys i p) (plus_zero j)
  where
    plus_zero : (j : ℕ) → j ≡ j + 0
    plus_zero j = omega arith
write_append (x ∷ xs) ys j p = write_append xs ys (j + 1) _ ∙ ap (λ (i : ℕ). write_path ys i (write_path xs (j + 1) (set_path_name p j x))) (along j (length xs))
  where
    along : (j k : ℕ) → j + 1 + k ≡ j + suc k
    along j k = omega arith

emit_append : (xs ys : List ℕ) (t : Emitting) → emit_path (xs ++ ys) t ≡ emit_path ys (emit_path xs t)
unfolding emit_path
emit_append xs ys t = rw (write_append xs ys t.next.path_names t.words, length-append xs ys, along t.next.path_names (length xs) (length ys))
  where
    along : (j k m : ℕ) → j + (k + m) ≡ j + k + m
    along j k m = omega arith

small_first : (xs ys : List ℕ) (t : Emitting) → Small (emit_path ys (emit_path xs t)).next → Small (emit_path xs t).next
unfolding emit_path
small_first xs ys t h = record {
  expressions_small = h.expressions_small;
  instructions_small = h.instructions_small;
  path_names_small = less (t.next.path_names + length xs) (length ys) h.path_names_small;
  codes_small = h.codes_small;
}
  where
    less : (j k : ℕ) → j + k < 4294967296 → j < 4294967296
    less j k l = omega arith

holder_is : (place : Place) → Paths.holder (place_of place) ≡ take place.depth place.names
unfolding Paths.holder place_of
holder_is place = go place.in_code
  where
    go : (t : Bool) → Paths.holder (when t then Paths.in_code (take place.depth place.names) else Paths.outside_code (take place.depth place.names)) ≡ take place.depth place.names
    go true = refl
    go false = refl

-- what a path with `^` becomes
up_names : (place : Place) → PlaceOk place → (k : ℕ) (ns : List ℕ) → names_of (resolve_path (place_of place) (Written.up k ns)) ≡ take (place.depth - k) place.names ++ ns
unfolding names_of resolve_path names_up
up_names place ok k ns = rw (holder_is place, length-take-le place.depth place.names (omega (arith, ok.deep, ok.sixteen)), take-take (place.depth - k) place.depth place.names (omega arith))

no_up_after : (us vs : List Symbol) (ns : List ℕ) → Names⊢ us ns vs → (front_kind vs ≡ 7 → ⊥) → NoUp us
unfolding front_kind kind_of
no_up_after us vs _ Names⊢.none f = record { no_up = λ x ws e g h. f (rw e g) }
no_up_after _ vs _ (Names⊢.more d) f = record { no_up = λ x ws e g h. absurd (other (ap front_kind (cons_rest e) ∙ h)) }
  where
    other : ◌≡◌ {A = ℕ} 25 8 → ⊥
    other e = omega arith

module _ (s b e : List ℕ) (count : ℕ) (place : Place) (n : Next) (p : List ℕ) (t : Seen) (x : Sees s n.at t) (u : Levels) (y : UpsRead s t.end place.depth u)
    (p₁ : List ℕ) (m : ℕ) (z : HolderDone place.names u.levels n.paths p p₁ m) (p' : List ℕ) (d : PathEnd)
    (f : DottedEmits s (table_of s b e count) u.at m p₁ p' d) where
  -- the names of the place are emitted
  held : u.levels ≤ 16 → length place.names ≡ 16 → Small (emit_path (take u.levels place.names) (emitting p (numbers n))).next →
      emitting p₁ (numbers (arrived n u.at m)) ≡ emit_path (take u.levels place.names) (emitting p (numbers n))
  unfolding emit_path
  held a b l =
      let e : length (take u.levels place.names) ≡ u.levels = length-take-le u.levels place.names (omega arith) in
      let c : n.paths + u.levels < 4294967296 = rw e at l.path_names_small in
      rw (z.words a b c, z.next a c, e)

  up_says : (us vs : List Symbol) (w : Written) → Ahead s (table_of s b e count) n us → Path⊢ us w vs → (front_kind vs ≡ 7 → ⊥) → PlaceOk place → (front_kind us ≡ 1 → ⊥) →
      Small (path_emitted place w (emitting p (numbers n))).next → Emitted s (table_of s b e count) (path_emitted place w (emitting p (numbers n))) p' (arrived n d.at d.paths) vs
  unfolding fixed_kind front_kind kind_of path_emitted
  up_says _ vs _ h (Path⊢.self _) nd ok ns l = absurd (ns refl)
  up_says _ vs _ h (Path⊢.up {k = j} {ns = ns} {ts = ts} {us = us} v g) nd ok ne l =
      let h₁ = (seen_fixed s (table_of s b e count) n t x Fixed.up ts h).ahead in
      let a = y.says (table_of s b e count) (go_to n t.end) ts us j refl h₁ v (no_up_after us vs ns g nd) in
      let h₂ = a.ahead in
      let first = take u.levels place.names in
      let t₀ = emitting p (numbers n) in
      let same : emit_path (names_of (resolve_path (place_of place) (Written.up j ns))) t₀ ≡ emit_path ns (emit_path first t₀) =
      ap (λ (ms : List ℕ). emit_path ms t₀) (up_names place ok j ns ∙ rw a.levels_are) ∙ emit_append first ns t₀ in
      let l₁ = rw same at l in
      let so = held (omega (arith, a.levels_are, ok.deep)) ok.sixteen (small_first first ns t₀ l₁) in
      rw (same, ← so)
      ((f.says n).says us vs ns (record { tokens = h₂.tokens; reads = h₂.reads; are = h₂.are; few = h₂.few }) (record { names = g; no_dot = nd }) (rw so l₁))

  pub up_emits : (r : Next) → r ≡ arrived n d.at d.paths → Emits (UpHere place) (path_emitted place) s (table_of s b e count) n p p' r
  up_emits r er = rw er (record {
    says = λ us vs w h g l. up_says us vs w h g.here.path g.here.no_dot g.here.ok g.not_self l;
    on = omega (arith, x.on, y.on, (f.says n).on);
  })

-- ---- A path

module _ (s b e : List ℕ) (count : ℕ) (place : Place) (n : Next) (p : List ℕ) (t : Seen) (x : Sees s n.at t) where
  eight : ◌≡◌ {A = ℕ} 8 1 → ⊥
  eight a = omega arith

  module _ (k : t.kind ≡ 1) (p' : List ℕ) (d : PathEnd) (f : DottedEmits s (table_of s b e count) t.end n.paths p p' d) where
    self_says : (us vs : List Symbol) (w : Written) → Ahead s (table_of s b e count) n us → Path⊢ us w vs → (front_kind vs ≡ 7 → ⊥) →
        Small (path_emitted place w (emitting p (numbers n))).next → Emitted s (table_of s b e count) (path_emitted place w (emitting p (numbers n))) p' (arrived n d.at d.paths) vs
    unfolding fixed_kind front_kind kind_of path_emitted names_of resolve_path
    self_says _ vs _ h (Path⊢.self {ns = ns} {ts = ts} g) nd a =
        (f.says n).says ts vs ns (seen_fixed s (table_of s b e count) n t x Fixed.self ts h).ahead (record { names = g; no_dot = nd }) a
    self_says us vs _ h (Path⊢.up v g) nd a = absurd (eight (seen_kind s (table_of s b e count) n t x us h ∙ k))

    pub path_self : (r : Next) → r ≡ arrived n d.at d.paths → Emits (PathHere place) (path_emitted place) s (table_of s b e count) n p p' r
    path_self r er = rw er (record { says = λ us vs w h g a. self_says us vs w h g.path g.no_dot a; on = omega (arith, x.on, (f.says n).on) })

  pub path_up : (t.kind ≡ 1 → ⊥) → (p' : List ℕ) (r : Next) → Emits (UpHere place) (path_emitted place) s (table_of s b e count) n p p' r → Emits (PathHere place) (path_emitted place) s (table_of s b e count) n p p' r
  path_up k p' r f = record {
    says = λ us vs w h g a. f.says us vs w h (record { here = g; not_self = λ i. k (sym (seen_kind s (table_of s b e count) n t x us h) ∙ i) }) a;
    on = f.on;
  }
