-- What is drawn of a header, and how its lines stand one behind another.
use Rattle.std.proofs.Common.{◌≡◌, ℕ, ◌+◌, List, [], ◌++◌, slice_index_or, ap, ◌∙◌, append_assoc}
use Rattle.rand_pcg.specs.Lcg.{Lcg}
use Rattle.sample_games.specs.Samples.{Header, drawn, later, results, time_controls, header_drawn}

module _ (draws white black month control : Lcg) (n w b m k : ℕ) (result time_control : List ℕ)
    (to_white : white ≡ later draws) (to_black : black ≡ later white) (to_month : month ≡ later black) (to_control : control ≡ later month)
    (n_is : n ≡ drawn 3 draws) (w_is : w ≡ drawn 2000 white) (b_is : b ≡ drawn 2000 black) (m_is : m ≡ drawn 12 month) (k_is : k ≡ drawn 6 control)
    (result_is : result ≡ slice_index_or results n []) (control_is : time_control ≡ slice_index_or time_controls k []) where
  abbrev made : Header
  made = record { result = result; white_rating = 800 + w; black_rating = 800 + b; month = 1 + m; time_control = time_control }

  pub header-is : made ≡ header_drawn draws
  header-is =
      let black_is : black ≡ later (later draws) = to_black ∙ ap later to_white in
      let month_is : month ≡ later (later (later draws)) = to_month ∙ ap later black_is in
      let last_is : control ≡ later (later (later (later draws))) = to_control ∙ ap later month_is in
      let one : result ≡ slice_index_or results (drawn 3 draws) [] = result_is ∙ ap (λ (j : ℕ). slice_index_or results j []) n_is in
      let two : 800 + w ≡ 800 + drawn 2000 (later draws) = ap (λ (j : ℕ). 800 + j) (w_is ∙ ap (drawn 2000) to_white) in
      let three : 800 + b ≡ 800 + drawn 2000 (later (later draws)) = ap (λ (j : ℕ). 800 + j) (b_is ∙ ap (drawn 2000) black_is) in
      let four : 1 + m ≡ 1 + drawn 12 (later (later (later draws))) = ap (λ (j : ℕ). 1 + j) (m_is ∙ ap (drawn 12) month_is) in
      let five : time_control ≡ slice_index_or time_controls (drawn 6 (later (later (later (later draws))))) [] = control_is ∙ ap (λ (j : ℕ). slice_index_or time_controls j []) (k_is ∙ ap (drawn 6) last_is) in
      λ i. record { result = one i; white_rating = two i; black_rating = three i; month = four i; time_control = five i }

-- one more line behind the lines
pub and-line : (text lines line now more : List ℕ) → now ≡ text ++ lines → more ≡ now ++ line → more ≡ text ++ (lines ++ line)
and-line text lines line now more so_far pushed = pushed ∙ (ap (λ (t : List ℕ). t ++ line) so_far ∙ append_assoc text lines line)
