-- The lines of a header, one behind another.
use Rattle.std.proofs.Common.{◌≡◌, ℕ, List, ◌++◌, codes, decimal, ◌∙◌}
use Rattle.std.proofs.lemmas.List.{append_assoc}
use Rattle.sample_games.specs.Samples.{Header, date_text, header_text, id_text, player_text, tag_line}

abbrev pub event_tag : List ℕ
event_tag = tag_line (codes "Event") (codes "Rated sample game")

module _ (index : ℕ) (header : Header) where
  abbrev pub site : List ℕ
  site = tag_line (codes "Site") (codes "https://lichess.org/" ++ id_text index)

  abbrev pub white : List ℕ
  white = tag_line (codes "White") (player_text 119 index)

  abbrev pub black : List ℕ
  black = tag_line (codes "Black") (player_text 98 index)

  abbrev pub result : List ℕ
  result = tag_line (codes "Result") header.result

  abbrev pub date : List ℕ
  date = tag_line (codes "UTCDate") (date_text header.month)

  abbrev pub white_elo : List ℕ
  white_elo = tag_line (codes "WhiteElo") (decimal header.white_rating)

  abbrev pub black_elo : List ℕ
  black_elo = tag_line (codes "BlackElo") (decimal header.black_rating)

  abbrev pub control : List ℕ
  control = tag_line (codes "TimeControl") header.time_control

  -- the lines behind the first, and what stands behind them
  abbrev pub behind_event : List ℕ → List ℕ
  behind_event rest = site ++ (white ++ (black ++ (result ++ (date ++ (white_elo ++ (black_elo ++ (control ++ rest)))))))

  pub grouped : (rest : List ℕ) → header_text index header ++ rest ≡ event_tag ++ behind_event rest
  grouped rest =
      append_assoc (event_tag ++ site ++ white ++ black ++ result ++ date ++ white_elo ++ black_elo) control rest
      ∙ (append_assoc (event_tag ++ site ++ white ++ black ++ result ++ date ++ white_elo) black_elo (control ++ rest)
      ∙ (append_assoc (event_tag ++ site ++ white ++ black ++ result ++ date) white_elo (black_elo ++ (control ++ rest))
      ∙ (append_assoc (event_tag ++ site ++ white ++ black ++ result) date (white_elo ++ (black_elo ++ (control ++ rest)))
      ∙ (append_assoc (event_tag ++ site ++ white ++ black) result (date ++ (white_elo ++ (black_elo ++ (control ++ rest))))
      ∙ (append_assoc (event_tag ++ site ++ white) black (result ++ (date ++ (white_elo ++ (black_elo ++ (control ++ rest)))))
      ∙ (append_assoc (event_tag ++ site) white (black ++ (result ++ (date ++ (white_elo ++ (black_elo ++ (control ++ rest))))))
      ∙ append_assoc event_tag site (white ++ (black ++ (result ++ (date ++ (white_elo ++ (black_elo ++ (control ++ rest)))))))))))))
