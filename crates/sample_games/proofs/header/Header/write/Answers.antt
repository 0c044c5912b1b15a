use Rattle.std.proofs.Common.{◌≡◌, ◌++◌, List, ℕ, ap, ◌∙◌, codes, decimal}
use Rattle.sample_games.specs.Samples.{Header, tag_line, id_text, player_text, date_text}
use Rattle.sample_games.specs.Movetexts.{header}
use Rattle.sample_games.proofs.Headers.{and-line}
use Rattle.sample_games.proofs.header.Header.write.Goals as goal

pub returns-clause-text : goal.returns-clause-text
returns-clause-text c =
    let made : Header = header c.args.self.now in
    let text : List ℕ = c.args.text.now.items in
    let event : List ℕ = tag_line (codes "Event") (codes "Rated sample game") in
    let site : List ℕ = tag_line (codes "Site") (codes "https://lichess.org/" ++ id_text c.args.index) in
    let white : List ℕ = tag_line (codes "White") (player_text 119 c.args.index) in
    let black : List ℕ = tag_line (codes "Black") (player_text 98 c.args.index) in
    let result : List ℕ = tag_line (codes "Result") made.result in
    let date : List ℕ = tag_line (codes "UTCDate") (date_text made.month) in
    let white_elo : List ℕ = tag_line (codes "WhiteElo") (decimal made.white_rating) in
    let black_elo : List ℕ = tag_line (codes "BlackElo") (decimal made.black_rating) in
    let control : List ℕ = tag_line (codes "TimeControl") made.time_control in
    let to_event : List ℕ = c.push_tag.new.text.items in
    let to_site : List ℕ = c.push_tag-2.new.text.items in
    let to_white : List ℕ = c.push_number_tag.new.text.items in
    let to_black : List ℕ = c.push_number_tag-2.new.text.items in
    let to_result : List ℕ = c.push_tag-3.new.text.items in
    let to_date : List ℕ = c.push_tag-4.new.text.items in
    let to_white_elo : List ℕ = c.push_number_tag-3.new.text.items in
    let to_black_elo : List ℕ = c.push_number_tag-4.new.text.items in
    let to_control : List ℕ = c.push_tag-5.new.text.items in
    let pushed_site : to_site ≡ to_event ++ site =
    c.in_ok-push_tag-2.ensures.text ∙ ap (λ (id : List ℕ). to_event ++ tag_line (codes "Site") (codes "https://lichess.org/" ++ id)) c.id_text.ensures in
    let pushed_date : to_date ≡ to_result ++ date =
    c.in_ok-push_tag-4.ensures.text ∙ ap (λ (day : List ℕ). to_result ++ tag_line (codes "UTCDate") day) c.date_text.ensures in
    let until_site : to_site ≡ text ++ (event ++ site) = and-line text (event) site to_event to_site c.in_ok-push_tag.ensures.text pushed_site in
    let until_white : to_white ≡ text ++ (event ++ site ++ white) = and-line text (event ++ site) white to_site to_white until_site c.in_ok-push_number_tag.ensures.text in
    let until_black : to_black ≡ text ++ (event ++ site ++ white ++ black) = and-line text (event ++ site ++ white) black to_white to_black until_white c.in_ok-push_number_tag-2.ensures.text in
    let until_result : to_result ≡ text ++ (event ++ site ++ white ++ black ++ result) = and-line text (event ++ site ++ white ++ black) result to_black to_result until_black c.in_ok-push_tag-3.ensures.text in
    let until_date : to_date ≡ text ++ (event ++ site ++ white ++ black ++ result ++ date) = and-line text (event ++ site ++ white ++ black ++ result) date to_result to_date until_result pushed_date in
    let until_white_elo : to_white_elo ≡ text ++ (event ++ site ++ white ++ black ++ result ++ date ++ white_elo) = and-line text (event ++ site ++ white ++ black ++ result ++ date) white_elo to_date to_white_elo until_date c.in_ok-push_number_tag-3.ensures.text in
    let until_black_elo : to_black_elo ≡ text ++ (event ++ site ++ white ++ black ++ result ++ date ++ white_elo ++ black_elo) = and-line text (event ++ site ++ white ++ black ++ result ++ date ++ white_elo) black_elo to_white_elo to_black_elo until_white_elo c.in_ok-push_number_tag-4.ensures.text in
    let until_control : to_control ≡ text ++ (event ++ site ++ white ++ black ++ result ++ date ++ white_elo ++ black_elo ++ control) = and-line text (event ++ site ++ white ++ black ++ result ++ date ++ white_elo ++ black_elo) control to_black_elo to_control until_black_elo c.in_ok-push_tag-5.ensures.text in
    until_control
