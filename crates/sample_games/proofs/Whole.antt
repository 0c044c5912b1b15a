-- The text of a sample, of what was appended.
use Rattle.std.proofs.Common.{◌≡◌, ◌∙◌, ℕ, ◌+◌, List, [], ◌++◌, codes, ap, subst}
use Rattle.explorer_model.specs.Chess.{start}
use Rattle.rand_pcg.specs.Lcg.{Lcg}
use Rattle.sample_games.specs.declared.header.Header as declared
use Rattle.sample_games.specs.Samples.{drawn, later, header_drawn, behind_header, header_text, IsSample}
use Rattle.sample_games.specs.Movetexts.{IsMovetext, header}

module _ (index : ℕ) (before drawn_on played behind : Lcg) (plies : ℕ) (movetext t0 t1 t2 t3 t4 t5 text : List ℕ) (made : declared.Header) where
  pub sample-is : plies ≡ drawn 41 before → drawn_on ≡ later before → IsMovetext (20 + plies) start 0 drawn_on movetext played
      → header made ≡ header_drawn played → behind ≡ behind_header played
      → t0 ≡ [] → t1 ≡ t0 ++ header_text index (header made) → t2 ≡ t1 ++ codes "\n" → t3 ≡ t2 ++ movetext → t4 ≡ t3 ++ (header made).result → t5 ≡ t4 ++ codes "\n\n" → text ≡ t5
      → IsSample index before text behind
  sample-is plies_is drawn_is line made_is behind_is e0 e1 e2 e3 e4 e5 e6 =
      let whole : IsMovetext (20 + drawn 41 before) start 0 (later before) movetext played =
      subst (λ (d : Lcg). IsMovetext (20 + drawn 41 before) start 0 d movetext played) drawn_is
      (subst (λ (n : ℕ). IsMovetext (20 + n) start 0 drawn_on movetext played) plies_is line) in
      let first : t1 ≡ header_text index (header made) = e1 ∙ ap (λ (t : List ℕ). t ++ header_text index (header made)) e0 in
      let second = e2 ∙ ap (λ (t : List ℕ). t ++ codes "\n") first in
      let third = e3 ∙ ap (λ (t : List ℕ). t ++ movetext) second in
      let fourth = e4 ∙ ap (λ (t : List ℕ). t ++ (header made).result) third in
      let fifth = e5 ∙ ap (λ (t : List ℕ). t ++ codes "\n\n") fourth in
      record {
        moves = whole.0;
        movetext = movetext;
        played = played;
        draws = whole.1;
        writes = whole.2;
        text_is = e6 ∙ (fifth ∙ ap (λ h. header_text index h ++ codes "\n" ++ movetext ++ h.result ++ codes "\n\n") made_is);
        behind_is = behind_is;
      }
