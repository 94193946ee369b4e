-- Outlets as lists of ports.
use Rattle.std.proofs.Common.{◌≡◌, ℕ, suc, ◌+◌, ◌<◌, List, [], ◌∷◌, ◌++◌, ⊎_elim, ◌≤◌, length, get_or, set, map, refl, sym, ◌∙◌, ap, subst, arith}
use Rattle.std.proofs.lemmas.List.{map-set, set-get_or, get_or-map, get_or_default}
use Rattle.std.proofs.lemmas.Bool.{cases_lt}
use Rattle.exchange_channels.specs.declared.messages.Message.{Message}
use Rattle.exchange_channels.specs.Messages.{end_of}
use Rattle.exchange_channels.specs.Ports.{PortState}
use Rattle.exchange_channels.specs.Wirings.{with_sent_to, with_ends}
use Rattle.exchange_channels.specs.inner.Keeps.{IsSettled}
use Rattle.exchange_channels.specs.inner.Outlets.{outlet_of, places_of, port_with_sent}

-- two lists of which f and g tell the same, place by place
pub map_same : {X Y : Type 0} (f g : X → Y) (xs ys : List X) → length ys ≡ length xs → ((k : ℕ) (d : X) → k < length xs → f (get_or ys k d) ≡ g (get_or xs k d)) → map f ys ≡ map g xs
map_same f g [] [] long same = refl
map_same f g [] (y ∷ ys) long same = absurd (omega arith)
map_same f g (x ∷ xs) [] long same = absurd (omega arith)
map_same f g (x ∷ xs) (y ∷ ys) long same = λ i. same 0 x (omega arith) i ∷ map_same f g xs ys (omega arith) (λ k d below. same (suc k) d (omega arith)) i

-- a list of which each element is that of another, mapped
pub map_of_places : {X : Type 0} (f : X → X) (xs ys : List X) → length ys ≡ length xs → ((k : ℕ) (d : X) → k < length xs → get_or ys k d ≡ f (get_or xs k d)) → ys ≡ map f xs
map_of_places f [] [] long same = refl
map_of_places f [] (y ∷ ys) long same = absurd (omega arith)
map_of_places f (x ∷ xs) [] long same = absurd (omega arith)
map_of_places f (x ∷ xs) (y ∷ ys) long same = λ i. same 0 x (omega arith) i ∷ map_of_places f xs ys (omega arith) (λ k d below. same (suc k) d (omega arith)) i

pub map-map : {X Y Z : Type 0} (f : X → Y) (g : Y → Z) (xs : List X) → map g (map f xs) ≡ map (λ x. g (f x)) xs
map-map f g [] = refl
map-map f g (x ∷ xs) = ap (λ l. g (f x) ∷ l) (map-map f g xs)

module _ (sender senders capacity : ℕ) (ports : List PortState) where
  -- a message was sent through one port
  pub outlet_of-set : (cell : ℕ) (d port : PortState) (message : Message) → cell < length ports → port ≡ port_with_sent (get_or ports cell d) message
      → outlet_of sender senders capacity (set ports cell port) ≡ with_sent_to (outlet_of sender senders capacity ports) cell message
  outlet_of-set cell d port message here is =
      λ i. record { wiring = record { places = places i; senders = senders; capacity = capacity }; sender = sender; sent = lists i }
    where
      places : places_of (set ports cell port) ≡ places_of ports
      places =
          map-set (λ p. p.place) ports cell port ∙ ap (λ (p : PortState). set (places_of ports) cell p.place) is
          ∙ ap (λ place. set (places_of ports) cell place) (sym (get_or-map (λ p. p.place) ports cell d d.place here)) ∙ set-get_or (places_of ports) cell d.place

      lists : map (λ p. p.knows.sent) (set ports cell port) ≡ set (map (λ p. p.knows.sent) ports) cell (get_or (map (λ p. p.knows.sent) ports) cell [] ++ message ∷ [])
      lists =
          map-set (λ p. p.knows.sent) ports cell port ∙ ap (λ (p : PortState). set (map (λ p. p.knows.sent) ports) cell p.knows.sent) is
          ∙ ap (λ l. set (map (λ p. p.knows.sent) ports) cell (l ++ message ∷ [])) (sym (get_or-map (λ p. p.knows.sent) ports cell d [] here))

  -- the end mark was sent through every port
  pub outlet_of-ended : outlet_of sender senders capacity (map (λ port. port_with_sent port (end_of sender)) ports) ≡ with_ends (outlet_of sender senders capacity ports)
  outlet_of-ended = λ i. record {
    wiring = record { places = map-map (λ port. port_with_sent port (end_of sender)) (λ p. p.place) ports i; senders = senders; capacity = capacity };
    sender = sender;
    sent = (map-map (λ port. port_with_sent port (end_of sender)) (λ p. p.knows.sent) ports ∙ sym (map-map (λ p. p.knows.sent) (λ messages. messages ++ end_of sender ∷ []) ports)) i;
  }

-- one more keeper is settled, which stays as it is
module _ (cells : List PortState) (i : ℕ) (item new : PortState) (is : item ≡ get_or cells i item) (here : i < length cells) (same : new ≡ item) where
  pub set_unchanged : set cells i new ≡ cells
  set_unchanged = ap (set cells i) (same ∙ is) ∙ set-get_or cells i item

  pub settled_more : IsSettled item → ((k : ℕ) (d : PortState) → k < i → IsSettled (get_or cells k d)) → (k : ℕ) (d : PortState) → k < i + 1 → IsSettled (get_or (set cells i new) k d)
  settled_more settled before k d below =
      subst (λ (l : List PortState). IsSettled (get_or l k d)) (sym set_unchanged)
      (⊎_elim (λ (less : k < i). before k d less)
      (λ (past : i ≤ k). let there : k ≡ i = omega arith in subst (λ (j : ℕ). IsSettled (get_or cells j d)) (sym there) (subst IsSettled (is ∙ get_or_default cells i item d here) settled))
      (cases_lt k i))
