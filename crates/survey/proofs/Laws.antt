-- One reading of a source: what is kept of the names, and all that is kept and counted, from token to token. Assumes nothing.
use mathlib.Core.Path.{◌≡◌, refl, ap, ◌∙◌, subst}
use Rattle.std.specs.Prelude.{Result, ⊤}
use mathlib.Core.Bool.{Bool, true, false}
use mathlib.Core.List.{List}
use Prim.Native.Nat.{ℕ, max, ◌+◌, ◌<◌, ◌≤◌}
use native.Mathlib.Omega.{arith}
use native.Mathlib.Decide.{dec_le}
use lib.Dec.{eqb}
use lib.ListN.{length}
use borrow.Author.Tests.{eq-eqb, ne_eqb, eqb-false}
use Rattle.framed.specs.Common.{when◌then◌else◌}
use Rattle.framed.specs.Bytes.{class}
use Rattle.framed.specs.Tokens.{tokens}
use Rattle.framed.specs.Answers.{load_refused}
use Rattle.framed.specs.declared.LoadRefusal.{LoadRefusal}
use Rattle.words.specs.Words.{set_word}
use Rattle.words.proofs.Laws.{set_size}
use Rattle.token.specs.Reading.{TokenAt}
use Rattle.token.specs.declared.TokenRead.{TokenRead}
use Rattle.reader.specs.Position.{ReadFrom}
use Rattle.reader.specs.declared.NextToken.{NextToken}
use Rattle.reader.proofs.Laws.{behind_token}
use Rattle.token_cache.specs.Cache.{Cached, CanStore, NotesFrom, Unnoted, with_entry}
use Rattle.sweep.specs.Decides.{Short, Decides}
use Rattle.scan.specs.Scan.{tokens_refusal, depth_after, last_refusal, NotHuge}
use Rattle.scan.proofs.Laws.{Scanning, scan_start, scan_end, scan_four, scan_again, scan_small, scan_done}
use Rattle.names.specs.Kept.{Few, Numbered, Marked, Sized, Kept, KeptAs, Leads}
use Rattle.names.proofs.Laws.{Keeping, keeping_start, keeping_end, keeping_none, keeping_again, keeping_many, keeping_done, keep_other, numbered_none}
use Rattle.names.proofs.Numbers.{kept_noted, kept_here, kept_stays}
use Rattle.names.proofs.Notes.{leads_start, leads_other, leads_name}
use Rattle.strings.specs.Places.{Placed, Stored, Counted}
use Rattle.strings.proofs.Laws.{Placing, placing_start, placing_again, placing_end, placing_none, placing_done, placing_small}
use Rattle.sums.specs.Totals.{Totalled, Room, Counts, nothing}
use Rattle.sums.specs.declared.Tally.{Tally}
use Rattle.sums.proofs.Laws.{Tallying, tally_start, tally_end, tally_none, tally_room, tally_again, tally_done}
use Rattle.slots.specs.Own.{bad_tree}
use Rattle.frames.specs.Levels.{Extends, Named, Watches}
use Rattle.frames.proofs.Watching.{Watching, watch_start, watch_again, watch_end, watch_none, watch_done}
use Rattle.survey.specs.Survey.{count_after, CanTake, Taken, Surveyed}
use Rattle.survey.specs.Survey as survey
use Rattle.survey.specs.declared.Findings.{Findings}

-- ---- Names

-- the names kept before a position, with their notes: at most 128 and no other stands before it, or more than 128
pub record Naming (c s b e hints : List ℕ) (n at : ℕ) : Type 0 where
  pub begins_size : length b ≡ 129
  pub ends_size : length e ≡ 129
  pub few : n ≤ 129
  pub numbered : Numbered s b e n
  pub led : Leads c s b e n
  pub keeping : n ≤ 128 → Keeping s b e hints n at
  pub kept : 128 < n → Kept s b e n

naming_start : (c s b e hints : List ℕ) → Unnoted c → Sized b e hints → Naming c s b e hints 0 0
naming_start c s b e hints u z = record {
  begins_size = z.begins_size;
  ends_size = z.ends_size;
  few = omega arith;
  numbered = numbered_none s b e;
  led = leads_start u;
  keeping = λ l. keeping_start s b e hints z;
  kept = λ l. absurd (omega arith);
}

module _ (c s b e hints : List ℕ) (n at : ℕ) (i : Naming c s b e hints n at) where
  -- either way the names are kept where the tokens end
  ended : (Keeping s b e hints n at → Kept s b e n) → Kept s b e n
  ended h = go (dec_le n 128)
    where
      more : (n ≤ 128 → ⊥) → 128 < n
      more l = omega arith

      go : Dec (n ≤ 128) → Kept s b e n
      go (yes l) = h (i.keeping l)
      go (no l) = i.kept (more l)

  module _ (r : TokenRead) (found : TokenAt class s at r) (k a p w : ℕ) (h : r ≡ TokenRead.Token k a p w) where
    read : TokenAt class s at (TokenRead.Token k a p w)
    read = subst (TokenAt class s at) h found

    naming_take : Cached c s → CanTake c s b e hints n at k a p w
    naming_take cached = record {
      stores = record { cached = cached; read = read };
      begins_size = i.begins_size;
      ends_size = i.ends_size;
      numbered = i.numbered;
      marked = λ l. (i.keeping l).marked;
    }

    module _ (c' b' e' hints' : List ℕ) (j : ℕ) where
      record After (n' : ℕ) : Type 0 where
        naming : Naming c' s b' e' hints' n' p
        extends : Extends s b e n b' e' n'
        named : Named s b' e' n' k a p j

      after_name : k ≡ 25 → n ≤ 128 → KeptAs s b e hints n a p b' e' hints' j → NotesFrom c c' at (j + 1) → (n' : ℕ) → n' ≡ (when eqb j n then n + 1 else n) → After n'
      after_name q l kept notes n' en = record {
        naming = record {
          begins_size = ap length kept.begins_is ∙ size b n a (eqb j n) ∙ i.begins_size;
          ends_size = ap length kept.ends_is ∙ size e n p (eqb j n) ∙ i.ends_size;
          few = most;
          numbered = numbered_after (dec_le n' 128);
          led = leads_name i.led (subst (λ x. TokenAt class s at (TokenRead.Token x a p w)) q read) notes kept en i.begins_size i.ends_size l;
          keeping = λ m. keeping_again s b e hints n at (i.keeping l) r found 25 a p w here b' e' hints' n' (kept_noted kept en) m;
          kept = λ m. keeping_many s b e hints n at (i.keeping l) r found 25 a p w here b' e' hints' n' (kept_noted kept en) m;
        };
        extends = record { more = (counted (eqb j n) en).0; stays = λ x lt. let z = kept_stays kept x lt in rw (z.0, z.1) };
        named = record {
          inside = λ x lt. inside (eqb j n) refl en;
          bytes = λ x lt. (kept_here kept i.begins_size i.ends_size l).1;
        };
      }
        where
          here : r ≡ TokenRead.Token 25 a p w
          here = h ∙ ap (λ x. TokenRead.Token x a p w) q

          size : (m : List ℕ) (y v : ℕ) (t : Bool) → length (when t then set_word m y v else m) ≡ length m
          size m y v true = set_size m y v
          size m y v false = refl

          counted : (t : Bool) → n' ≡ (when t then n + 1 else n) → (n ≤ n') × (n' ≤ n + 1)
          counted true x = (omega arith, omega arith)
          counted false x = (omega arith, omega arith)

          most : n' ≤ 129
          most = omega (arith, (counted (eqb j n) en).1)

          inside : (t : Bool) → eqb j n ≡ t → n' ≡ (when t then n + 1 else n) → j < n'
          inside true x y = omega (arith, (kept_here kept i.begins_size i.ends_size l).0)
          inside false x y = less j n (kept_here kept i.begins_size i.ends_size l).0 (eqb-false j n x) y
            where
              less : (j n : ℕ) → j ≤ n → (j ≡ n → ⊥) → n' ≡ n → j < n'
              less j n l f e = omega arith

          numbered_after : Dec (n' ≤ 128) → Numbered s b' e' n'
          numbered_after (yes m) = (keeping_again s b e hints n at (i.keeping l) r found 25 a p w here b' e' hints' n' (kept_noted kept en) m).numbered
          numbered_after (no m) = (keeping_many s b e hints n at (i.keeping l) r found 25 a p w here b' e' hints' n' (kept_noted kept en) (more n' m)).numbered
            where
              more : (x : ℕ) → (x ≤ 128 → ⊥) → 128 < x
              more x f = omega arith

      after_other : (k ≡ 25 → 128 < n) → b' ≡ b → e' ≡ e → hints' ≡ hints → j ≡ 255 → NotesFrom c c' at 0 → (n' : ℕ) → n' ≡ n → After n'
      after_other f eb ee eh ej notes n' en = record {
        naming = record {
          begins_size = rw eb i.begins_size;
          ends_size = rw ee i.ends_size;
          few = rw en i.few;
          numbered = rw (eb, ee, en) i.numbered;
          led = rw (eb, ee, en) (leads_other i.led notes);
          keeping = λ m. rw (eb, ee, eh, en) (same_names (omega (arith, en, m)));
          kept = λ m. rw (eb, ee, en) (i.kept (omega (arith, en, m)));
        };
        extends = record { more = omega (arith, en); stays = λ x lt. rw (eb, ee) refl };
        named = record { inside = λ x lt. absurd (omega (arith, ej)); bytes = λ x lt. absurd (omega (arith, ej)) };
      }
        where
          same_names : n ≤ 128 → Keeping s b e hints n p
          same_names m = keeping_again s b e hints n at (i.keeping m) r found k a p w h b e hints n (keep_other s b e hints n k a p (λ q. absurd (omega (arith, f q)))) m

      after : Taken c s b e hints n at k a p w c' b' e' hints' j → (n' : ℕ) → n' ≡ count_after n j → After n'
      unfolding count_after
      after (Taken.name q l kept entry notes) n' en = after_name q l kept notes n' en
      after (Taken.other f eb ee eh ej entry notes) n' en = after_other f eb ee eh ej notes n' (en ∙ rw (ne_eqb j n (λ z. absurd (omega (arith, ej, i.few)))))

-- ---- One token is taken

module _ (c s b e hints : List ℕ) (n at k a p w : ℕ) (can : CanTake c s b e hints n at k a p w) where
  pub take_few : n ≤ 128 → Few n
  take_few l = record { few = l }

  pub take_marked : n ≤ 128 → Marked s b e hints n
  take_marked l = can.marked l

  pub take_numbered : Numbered s b e n
  take_numbered = can.numbered

  pub take_store : k ≡ 25 → CanStore c s at 25 a p w
  take_store q = subst (λ x. CanStore c s at x a p w) q can.stores

  module _ (b' e' hints' : List ℕ) (j : ℕ) (l : n ≤ 128) (kept : KeptAs s b e hints n a p b' e' hints' j) where
    pub take_small : j + 1 < 4294967296
    take_small = omega (arith, (kept_here kept can.begins_size can.ends_size l).0)

    pub taken_name : k ≡ 25 → (c' : List ℕ) → c' ≡ with_entry c at 25 a p (j + 1) → NotesFrom c c' at (j + 1) → Taken c s b e hints n at k a p w c' b' e' hints' j
    taken_name q c' entry notes = Taken.name q l kept entry notes

  module _ (c' : List ℕ) (entry : c' ≡ with_entry c at k a p w) (notes : NotesFrom c c' at 0) where
    pub taken_many : 128 < n → Taken c s b e hints n at k a p w c' b e hints 255
    taken_many l = Taken.other (λ q. l) refl refl refl refl entry notes

    pub taken_other : (k ≡ 25 → ⊥) → Taken c s b e hints n at k a p w c' b e hints 255
    taken_other f = Taken.other (λ q. absurd (f q)) refl refl refl refl entry notes

module _ (n j : ℕ) where
  pub count_next : j ≡ n → n + 1 ≡ count_after n j
  unfolding count_after
  count_next q = rw (eq-eqb j n q)

  pub count_same : (j ≡ n → ⊥) → n ≡ count_after n j
  unfolding count_after
  count_same f = rw (ne_eqb j n f)

-- ---- Everything

-- a token was read at the position, and the next position is `behind`
pub record Here (s : List ℕ) (at k a p w behind : ℕ) : Type 0 where
  read : TokenAt class s at (TokenRead.Token k a p w)
  moved : behind ≡ p

pub stands_here : (s : List ℕ) (at : ℕ) (r : NextToken) → ReadFrom s at r → (k a p w : ℕ) → r.token ≡ TokenRead.Token k a p w → Here s at k a p w r.at
stands_here s at r found k a p w h = record { read = subst (TokenAt class s at) h found.read; moved = behind_token s at r found k a p w h }

-- (its fields stay here, so that a search elsewhere does not go through all of them)
pub record Surveying (c s b e hints places counts own : List ℕ) (clean : Bool) (n m depth high : ℕ) (tally : Tally) (last at : ℕ) : Type 0 where
  cached : Cached c s
  scanning : Scanning class s at depth high
  tallying : Tallying s at tally last
  naming : Naming c s b e hints n at
  placing : Placing s places m at
  watching : Watching s b e n counts own clean depth last at

-- the sizes of what is lent
pub record Sizes (b e places : List ℕ) : Type 0 where
  pub begins_size : length b ≡ 129
  pub ends_size : length e ≡ 129
  pub places_size : length places ≡ 129

pub survey_start : (c s b e hints places counts own : List ℕ) (tally : Tally) → Cached c s → Unnoted c → Sized b e hints → length places ≡ 129 → length counts ≡ 18 → length own ≡ 306 →
    tally ≡ nothing → Surveying c s b e hints places counts own true 0 0 0 0 tally 0 0
survey_start c s b e hints places counts own tally cached u z hp hc ho et = record {
  cached = cached;
  scanning = scan_start class s;
  tallying = tally_start s tally et;
  naming = naming_start c s b e hints u z;
  placing = placing_start s places hp;
  watching = watch_start s b e counts own hc ho;
}

module _ (c s b e hints places counts own : List ℕ) (clean : Bool) (n m depth high : ℕ) (tally : Tally) (last at : ℕ)
    (i : Surveying c s b e hints places counts own clean n m depth high tally last at) where
  pub survey_sizes : Sizes b e places
  survey_sizes = record { begins_size = i.naming.begins_size; ends_size = i.naming.ends_size; places_size = i.placing.size }

  pub survey_cached : Cached c s
  survey_cached = i.cached

  pub survey_few : survey.Few n
  survey_few = record { few = i.naming.few }

  pub survey_placed : Short s → at < length s → Counted m
  survey_placed h l = placing_small s places m at i.placing h l

  pub survey_depth : Short s → at < length s → NotHuge depth
  survey_depth h l = scan_small class s at depth high i.scanning (omega (arith, h.short))

  pub survey_room : Short s → at < length s → Room tally
  survey_room h l = tally_room s at tally last i.tallying h l

  -- at the end of the tokens
  module _ (x : Result ⊤ LoadRefusal) where
    abbrev findings : Findings
    findings = record { refusal = x; names = n; strings = m; clean = clean; totals = tally.totals }

    finished : (c' : List ℕ) → Cached c' s → Leads c' s b e n → load_refused x ≡ tokens_refusal (tokens class s) → Kept s b e n → Placed s places m → Totalled s tally.totals →
        (clean ≡ true → Decides bad_tree s false) → Surveyed c' s b e places findings
    finished c' cached led ex kept placed totalled clean_is = record {
      refusal_is = ex;
      cached = cached;
      kept = kept;
      led = led;
      placed = placed;
      totalled = totalled;
      clean_is = clean_is;
    }

    pub survey_done : length s ≤ at → load_refused x ≡ last_refusal high depth → Surveyed c s b e places findings
    survey_done l ex =
        finished c i.cached i.naming.led (scan_done class s at depth high i.scanning (load_refused x) l ex) (ended c s b e hints n at i.naming (λ k. keeping_done s b e hints n at k l))
        (placing_done s places m at i.placing l) (tally_done s at tally last i.tallying l) (watch_done s b e n counts own clean depth last at i.watching l)

    module _ (r : TokenRead) (found : TokenAt class s at r) where
      pub survey_end : r ≡ TokenRead.End → load_refused x ≡ last_refusal high depth → (c' : List ℕ) → Cached c' s → NotesFrom c c' at 0 → Surveyed c' s b e places findings
      survey_end h ex c' cached notes =
          finished c' cached (leads_other i.naming.led notes) (scan_end class s at depth high i.scanning r found (load_refused x) ex h)
          (ended c s b e hints n at i.naming (λ k. keeping_end s b e hints n at k r found h)) (placing_end s places m at i.placing r found h)
          (tally_end s at tally last i.tallying r found h) (watch_end s b e n counts own clean depth last at i.watching r found h)

      pub survey_none : r ≡ TokenRead.NoToken → load_refused x ≡ 4 → Surveyed c s b e places findings
      survey_none h ex =
          finished c i.cached i.naming.led (ex ∙ scan_four class s at depth high i.scanning r found h)
          (ended c s b e hints n at i.naming (λ k. keeping_none s b e hints n at k r found h)) (placing_none s places m at i.placing r found h)
          (tally_none s at tally last i.tallying r found h) (watch_none s b e n counts own clean depth last at i.watching r found h)

  module _ (r : TokenRead) (found : TokenAt class s at r) (k a p w : ℕ) (h : r ≡ TokenRead.Token k a p w) where
    pub survey_take : CanTake c s b e hints n at k a p w
    survey_take = naming_take c s b e hints n at i.naming r found k a p w h i.cached

  -- what is kept after a token; that it was read is asked last, when the token is known
  pub survey_again : Short s → at < length s → (c' b' e' hints' : List ℕ) (j k a p w : ℕ) → Cached c' s → Taken c s b e hints n at k a p w c' b' e' hints' j → (counts' own' : List ℕ) (clean' : Bool) →
      Watches counts own clean depth last k j counts' own' clean' → (n' : ℕ) → n' ≡ count_after n j → (places' : List ℕ) (m' : ℕ) → Stored places m at k places' m' → (high' : ℕ) → high' ≡ max high depth →
      (depth' : ℕ) → depth' ≡ depth_after depth k → (tally' : Tally) → Counts tally last k tally' → (at' : ℕ) → Here s at k a p w at' → Surveying c' s b' e' hints' places' counts' own' clean' n' m' depth' high' tally' k at'
  survey_again short l c' b' e' hints' j k a p w cached taken counts' own' clean' watches n' en places' m' stored high' eh depth' ed tally' counts-on at' here =
      let r : TokenRead = TokenRead.Token k a p w in
      let u = after c s b e hints n at i.naming r here.read k a p w refl c' b' e' hints' j taken n' en in
      rw here.moved (record {
        cached = cached;
        scanning = scan_again class s at depth high i.scanning r here.read k a p w refl depth' high' ed eh;
        tallying = tally_again s at tally last i.tallying r here.read k a p w refl tally' counts-on short l;
        naming = u.naming;
        placing = placing_again s places m at i.placing r here.read k a p w refl places' m' stored;
        watching = watch_again s b e n counts own clean depth last at i.watching r here.read k a p w refl b' e' n' u.extends u.naming.numbered j u.named counts' own' clean' watches depth' ed;
      })
