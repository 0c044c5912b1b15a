-- Statement: how many games the segments of a store have, by how many its batches have.
use Rattle.std.specs.Prelude.{◌≡◌, ◌⊎◌, ⊤, ◌+◌, ◌*◌, ◌<◌, ◌≤◌, ℕ, zero, suc, List, [], ◌∷◌, ◌++◌, length}
use Rattle.published_index.specs.Cover.{list_limit}

-- the first one has more than twice as many games as the next one, if there is one
abbrev pub IsApart : ℕ → List ℕ → Type 0
IsApart games [] = ⊤
IsApart games (next ∷ later) = 2 * next < games

-- no neighbours are to become one
abbrev pub AreApart : List ℕ → Type 0
AreApart [] = ⊤
AreApart (games ∷ later) = IsApart games later × AreApart later

-- the last neighbours that are to become one have become one
pub record JoinsLast (sizes new : List ℕ) : Type 0 where
  pub earlier : List ℕ
  pub left : ℕ
  pub right : ℕ
  pub later : List ℕ
  pub sizes_are : sizes ≡ earlier ++ left ∷ right ∷ later
  pub due : left ≤ 2 * right
  pub last : AreApart (right ∷ later)
  pub new_are : new ≡ earlier ++ (left + right) ∷ later

-- they have, if there are any
abbrev pub JoinsIfDue : List ℕ → List ℕ → Type 0
JoinsIfDue sizes new = (AreApart sizes × (new ≡ sizes)) ⊎ JoinsLast sizes new

-- where as many segments stand as may, one gets room by a join
pub record GetsRoom (sizes new : List ℕ) : Type 0 where
  pub has_room : length sizes < list_limit → new ≡ sizes
  pub is_full : list_limit ≤ length sizes → JoinsLast sizes new

-- a batch of so many games comes to stand behind the others, and then the last neighbours join
pub record GoesBehind (games : ℕ) (sizes new : List ℕ) : Type 0 where
  pub roomy : List ℕ
  pub room : GetsRoom sizes roomy
  pub joins : JoinsIfDue (roomy ++ games ∷ []) new

-- batches come one after another
abbrev pub GoAllBehind : List ℕ → List ℕ → List ℕ → Type 0
GoAllBehind [] sizes new = new ≡ sizes
GoAllBehind (games ∷ more) sizes new =
    (next : List ℕ) × GoesBehind games sizes next × GoAllBehind more next new

-- so many joins, and then no neighbours are to become one
abbrev pub JoinsAll : ℕ → List ℕ → List ℕ → Type 0
JoinsAll zero sizes new = AreApart sizes × (new ≡ sizes)
JoinsAll (suc joins) sizes new =
    (next : List ℕ) × JoinsLast sizes next × JoinsAll joins next new

-- What segments come to by joins until none are to become one.
pub record AreJoined (sizes new : List ℕ) : Type 0 where
  pub joins : ℕ
  pub joined : JoinsAll joins sizes new

-- the segments of a new store behind batches of so many games, once all are joined
pub record AreDrained (batches sizes : List ℕ) : Type 0 where
  pub behind : List ℕ
  pub go : GoAllBehind batches [] behind
  pub joined : AreJoined behind sizes
