-- What is asked for by a path and a method, where a player's games are offered and where they are not.
use Rattle.std.proofs.Common.{◌≡◌, ℕ, List, [], true, codes, refl}
use Rattle.explorer_model.specs.declared.wire.Method.{Method}
use Rattle.explorer_model.specs.declared.wire.Method.TheVariants as methods
use Rattle.explorer_model.specs.declared.wire.Path.TheVariants as paths
use Rattle.explorer_model.specs.declared.wire.Reply.TheVariants as replies
use Rattle.session.specs.Replies.{Offer, Answer, Fixed, Import, PlayerAnswer, no_offer, route_by}

with_players : Offer
with_players = record { book = []; players = true }

-- without players the path is none, whatever the method
no-players : (method : Method) (query body : List ℕ) → route_by no_offer paths.Player method query body ≡ Fixed replies.NotFound
no-players method query body = refl

players-by-get : route_by with_players paths.Player methods.Get (codes "player=Ann") [] ≡ PlayerAnswer (codes "player=Ann")
unfolding with_players
players-by-get = refl

players-by-post : route_by with_players paths.Player methods.Post (codes "player=Ann") (codes "x") ≡ Fixed (replies.NotAllowed methods.Get)
unfolding with_players
players-by-post = refl

players-by-another-method : route_by with_players paths.Player methods.Other [] [] ≡ Fixed (replies.NotAllowed methods.Get)
unfolding with_players
players-by-another-method = refl

-- the other paths are what they are, whatever is offered
answers-by-get : (offer : Offer) (query body : List ℕ) → route_by offer paths.Lichess methods.Get query body ≡ Answer query
answers-by-get offer query body = refl

answers-by-post : (offer : Offer) (query body : List ℕ) → route_by offer paths.Lichess methods.Post query body ≡ Fixed (replies.NotAllowed methods.Get)
answers-by-post offer query body = refl

imports-by-post : (offer : Offer) (query body : List ℕ) → route_by offer paths.Import methods.Post query body ≡ Import body
imports-by-post offer query body = refl

imports-by-get : (offer : Offer) (query body : List ℕ) → route_by offer paths.Import methods.Get query body ≡ Fixed (replies.NotAllowed methods.Post)
imports-by-get offer query body = refl

no-path : (offer : Offer) (method : Method) (query body : List ℕ) → route_by offer paths.Other method query body ≡ Fixed replies.NotFound
no-path offer method query body = refl
