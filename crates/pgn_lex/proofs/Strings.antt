-- A tag's string, one byte at a time.
use Rattle.std.proofs.Common.{◌≡◌, ℕ, ◌+◌, ◌<◌, ◌≤◌, Bool, true, false, not, ◌&&◌, ◌||◌, ◌==◌, List, [], ◌∷◌, ◌++◌, length, get_or, drop, Option, Some, None, option_map, refl, sym, ap, ◌∙◌, add-zero, append_assoc, arith}
use Rattle.std.specs.List.{list_any}
use Rattle.std.proofs.lemmas.Bool.{cond-true, cond-false, eqb-true, true≢false, false_from_ne_true}
use Rattle.std.proofs.lemmas.List.{at_drop_more, at_drop_all, append-nil}
use Rattle.explorer_model.specs.Items.{closes_string, ends_line, is_escapable, escapes, keep_unless, string_len, unescaped}
use Rattle.pgn_lex.specs.Pair.{is_plain}

-- A plain byte only stands there.

apart : (b n : ℕ) → is_plain b ≡ true → is_plain n ≡ false → (b == n) ≡ false
apart b n plain other = false_from_ne_true (b == n) (λ e. true≢false (sym plain ∙ ap is_plain (eqb-true b n e) ∙ other))

pub plain_stays : (escaped : Bool) (b : ℕ) → is_plain b ≡ true → closes_string escaped b ≡ false
plain_stays escaped b plain = ap (λ x. x && not escaped) (apart b 34 plain refl)

pub plain_whole : (b : ℕ) → is_plain b ≡ true → ends_line b ≡ false
plain_whole b plain = ap (λ x. x || b == 13) (apart b 10 plain refl) ∙ apart b 13 plain refl

pub plain_keeps : (escaped : Bool) (b : ℕ) (rest : List ℕ) → is_plain b ≡ true → escapes escaped b rest ≡ false
plain_keeps true b rest plain = refl
plain_keeps false b rest plain = ap (λ x. x && is_escapable rest) (apart b 92 plain refl)

-- A string without a backslash is what it says.

neither : (x y : Bool) → (x || y) ≡ false → (x ≡ false) × (y ≡ false)
neither true y e = cc
neither false y e = (refl, e)

pub nothing_escapes : (bytes : List ℕ) → list_any (λ b. b == 92) bytes ≡ false → unescaped false bytes ≡ bytes
unfolding unescaped
nothing_escapes [] none = refl
nothing_escapes (b ∷ bytes) none =
    let parts = neither (b == 92) (list_any (λ b. b == 92) bytes) none in
    ap (λ (e : Bool). keep_unless e b (unescaped e bytes)) (ap (λ x. x && is_escapable bytes) parts.0) ∙ ap (λ (rest : List ℕ). b ∷ rest) (nothing_escapes bytes parts.1)

-- what is found from a place on, as found from the start
abbrev pub ahead : ℕ → Option ℕ → Option ℕ
ahead at found = option_map (λ count. at + count) found

ahead-suc : (at : ℕ) (found : Option ℕ) → ahead at (option_map (λ count. count + 1) found) ≡ ahead (at + 1) found
ahead-suc at None = refl
ahead-suc at (Some count) = ap Some (omega arith)

pub ahead-zero : (found : Option ℕ) → ahead 0 found ≡ found
ahead-zero None = refl
ahead-zero (Some count) = ap Some (omega arith)

module _ (escaped : Bool) (bytes : List ℕ) (at : ℕ) (within : at < length bytes) where
  pub closed_at : (total : Option ℕ) → closes_string escaped (get_or bytes at 0) ≡ true → ahead at (string_len escaped (drop at bytes)) ≡ total → Some at ≡ total
  unfolding string_len
  closed_at total closes so_far =
      let here : string_len escaped (drop at bytes) ≡ Some 0 = at_drop_more (string_len escaped) bytes at 0 within ∙ cond-true (closes_string escaped (get_or bytes at 0)) (Some 0) _ closes in
      sym (ap Some (add-zero at)) ∙ sym (ap (ahead at) here) ∙ so_far

  pub broken_at : (total : Option ℕ) → closes_string escaped (get_or bytes at 0) ≡ false → ends_line (get_or bytes at 0) ≡ true → ahead at (string_len escaped (drop at bytes)) ≡ total → None ≡ total
  unfolding string_len
  broken_at total stays breaks so_far =
      let here : string_len escaped (drop at bytes) ≡ None =
      at_drop_more (string_len escaped) bytes at 0 within ∙ cond-false (closes_string escaped (get_or bytes at 0)) (Some 0) _ stays ∙ cond-true (ends_line (get_or bytes at 0)) None _ breaks in
      sym (ap (ahead at) here) ∙ so_far

  pub goes_on_at : (total : Option ℕ) → closes_string escaped (get_or bytes at 0) ≡ false → ends_line (get_or bytes at 0) ≡ false → ahead at (string_len escaped (drop at bytes)) ≡ total
      → ahead (at + 1) (string_len (escapes escaped (get_or bytes at 0) (drop (at + 1) bytes)) (drop (at + 1) bytes)) ≡ total
  unfolding string_len
  goes_on_at total stays whole so_far =
      let rest : Option ℕ = string_len (escapes escaped (get_or bytes at 0) (drop (at + 1) bytes)) (drop (at + 1) bytes) in
      let here : string_len escaped (drop at bytes) ≡ option_map (λ count. count + 1) rest =
      at_drop_more (string_len escaped) bytes at 0 within ∙ cond-false (closes_string escaped (get_or bytes at 0)) (Some 0) _ stays ∙ cond-false (ends_line (get_or bytes at 0)) None _ whole in
      sym (ahead-suc at rest) ∙ sym (ap (ahead at) here) ∙ so_far

  pub kept_at : (value total : List ℕ) → escapes escaped (get_or bytes at 0) (drop (at + 1) bytes) ≡ false → value ++ unescaped escaped (drop at bytes) ≡ total
      → (value ++ get_or bytes at 0 ∷ []) ++ unescaped false (drop (at + 1) bytes) ≡ total
  unfolding unescaped
  kept_at value total kept so_far =
      let rest : List ℕ = drop (at + 1) bytes in
      let here : unescaped escaped (drop at bytes) ≡ get_or bytes at 0 ∷ unescaped false rest =
      at_drop_more (unescaped escaped) bytes at 0 within ∙ ap (λ (e : Bool). keep_unless e (get_or bytes at 0) (unescaped e rest)) kept in
      append_assoc value (get_or bytes at 0 ∷ []) (unescaped false rest) ∙ sym (ap (λ (more : List ℕ). value ++ more) here) ∙ so_far

  pub dropped_at : (value total : List ℕ) → escapes escaped (get_or bytes at 0) (drop (at + 1) bytes) ≡ true → value ++ unescaped escaped (drop at bytes) ≡ total
      → value ++ unescaped true (drop (at + 1) bytes) ≡ total
  unfolding unescaped
  dropped_at value total goes so_far =
      let rest : List ℕ = drop (at + 1) bytes in
      let here : unescaped escaped (drop at bytes) ≡ unescaped true rest =
      at_drop_more (unescaped escaped) bytes at 0 within ∙ ap (λ (e : Bool). keep_unless e (get_or bytes at 0) (unescaped e rest)) goes in
      sym (ap (λ (more : List ℕ). value ++ more) here) ∙ so_far

pub unclosed : (escaped : Bool) (bytes : List ℕ) (at : ℕ) (total : Option ℕ) → length bytes ≤ at → ahead at (string_len escaped (drop at bytes)) ≡ total → None ≡ total
unfolding string_len
unclosed escaped bytes at total end so_far = sym (ap (ahead at) (at_drop_all (string_len escaped) bytes at end)) ∙ so_far

pub unescaped_whole : (escaped : Bool) (bytes : List ℕ) (at : ℕ) (value total : List ℕ) → length bytes ≤ at → value ++ unescaped escaped (drop at bytes) ≡ total → value ≡ total
unfolding unescaped
unescaped_whole escaped bytes at value total end so_far =
    sym (append-nil value) ∙ sym (ap (λ (more : List ℕ). value ++ more) (at_drop_all (unescaped escaped) bytes at end)) ∙ so_far
