-- What a group in hand holds of cuts.
use Rattle.std.proofs.Common.{◌≡◌, ℕ, ◌≤◌, ◌<◌, List, [], ◌∷◌, ◌++◌, length, filter_map, refl, sym, ap, subst, ◌∙◌, arith}
use Rattle.std.specs.List.{cons_option}
use Rattle.std.proofs.lemmas.List.{append-nil}
use Rattle.std.proofs.lemmas.List.Elements.{filter_map-append}
use Rattle.explorer_model.specs.Cuts.{Cut, Text, TooLong, Preamble}
use Rattle.explorer_model.specs.declared.archive.Placed.{Placed}
use Rattle.explorer_model.specs.declared.fault.Refusal.{Refusal}
use Rattle.explorer_model.specs.declared.fault.Why.TheVariants as causes
use Rattle.pgn_cut.specs.Cut.{meaning}
use Rattle.pgn_cut.specs.declared.cut.Cut as given
use Rattle.pgn_cut.specs.declared.cut.Cut.TheVariants as kinds
use Rattle.import_run.specs.SoFar.{IsWhole}
use Rattle.import_run.specs.Grouping.{IsGroupOf, text_of, unread_of}
use Rattle.import_run.specs.declared.text_group.TextGroup.{TextGroup}
use Rattle.import_run.proofs.GroupLemmas.{texts_in, texts-append, texts-cons}

-- one more cut
holds_more : (cuts : List Cut) (cut : Cut) (old new : TextGroup) → IsGroupOf cuts old
    → new.texts.items ≡ old.texts.items ++ cons_option (text_of cut) [] → new.unread.items ≡ old.unread.items ++ cons_option (unread_of cut) [] → IsGroupOf (cuts ++ cut ∷ []) new
holds_more cuts cut old new group texts unread = record {
  texts = texts ∙ ap (λ (l : List Placed). l ++ cons_option (text_of cut) []) group.texts ∙ sym (filter_map-append text_of cuts (cut ∷ []));
  unread = unread ∙ ap (λ (l : List Refusal). l ++ cons_option (unread_of cut) []) group.unread ∙ sym (filter_map-append unread_of cuts (cut ∷ []));
}

pub holds_text : (cuts : List Cut) (cut : given.Cut) (text : Placed) (old new : TextGroup) → cut ≡ kinds.Text text → new.texts.items ≡ old.texts.items ++ text ∷ [] → new.unread.items ≡ old.unread.items
    → IsGroupOf cuts old → IsGroupOf (cuts ++ meaning cut ∷ []) new
holds_text cuts cut text old new is texts unread group =
    let P : given.Cut → Type 0 = λ cut. IsGroupOf (cuts ++ meaning cut ∷ []) new in
    subst P (sym is) (holds_more cuts (Text text) old new group texts (unread ∙ sym (append-nil old.unread.items)))

pub holds_long : (cuts : List Cut) (cut : given.Cut) (place long : ℕ) (old new : TextGroup) → cut ≡ kinds.TooLong place long → new.texts.items ≡ old.texts.items → new.unread.items ≡ old.unread.items ++ record { place = place; why = causes.TooLong long } ∷ []
    → IsGroupOf cuts old → IsGroupOf (cuts ++ meaning cut ∷ []) new
holds_long cuts cut place long old new is texts unread group =
    let P : given.Cut → Type 0 = λ cut. IsGroupOf (cuts ++ meaning cut ∷ []) new in
    subst P (sym is) (holds_more cuts (TooLong place long) old new group (texts ∙ sym (append-nil old.texts.items)) unread)

pub holds_preamble : (cuts : List Cut) (cut : given.Cut) (place : ℕ) (old new : TextGroup) → cut ≡ kinds.Preamble place → new.texts.items ≡ old.texts.items → new.unread.items ≡ old.unread.items ++ record { place = place; why = causes.Preamble } ∷ []
    → IsGroupOf cuts old → IsGroupOf (cuts ++ meaning cut ∷ []) new
holds_preamble cuts cut place old new is texts unread group =
    let P : given.Cut → Type 0 = λ cut. IsGroupOf (cuts ++ meaning cut ∷ []) new in
    subst P (sym is) (holds_more cuts (Preamble place) old new group (texts ∙ sym (append-nil old.texts.items)) unread)

pub texts_held : (cuts : List Cut) → length (filter_map text_of cuts) ≡ texts_in cuts
texts_held [] = refl
texts_held (Text text ∷ cuts) = omega (arith, texts_held cuts, texts-cons (Text text) cuts)
texts_held (TooLong place long ∷ cuts) = omega (arith, texts_held cuts, texts-cons (TooLong place long) cuts)
texts_held (Preamble place ∷ cuts) = omega (arith, texts_held cuts, texts-cons (Preamble place) cuts)

pub holds_texts : (cuts : List Cut) (group : TextGroup) → IsGroupOf cuts group → length group.texts.items ≡ texts_in cuts
holds_texts cuts group holds = ap length holds.texts ∙ texts_held cuts

-- the last text that a group may have makes it whole
pub is_whole : (cuts : List Cut) (cut : Cut) → texts_in cuts < 512 → 512 ≤ texts_in (cuts ++ cut ∷ []) → IsWhole (cuts ++ cut ∷ [])
is_whole cuts (Text text) few full = record {
  front = cuts;
  text = text;
  ends = refl;
  texts = omega (arith, few, full, texts-append cuts (Text text ∷ []), texts-cons (Text text) []);
}
is_whole cuts (TooLong place long) few full = absurd (omega (arith, few, full, texts-append cuts (TooLong place long ∷ []), texts-cons (TooLong place long) []))
is_whole cuts (Preamble place) few full = absurd (omega (arith, few, full, texts-append cuts (Preamble place ∷ []), texts-cons (Preamble place) []))
