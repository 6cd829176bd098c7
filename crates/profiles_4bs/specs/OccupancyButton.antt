-- The occupancy button, which profiles of several FUNCs have (EnOcean Equipment Profiles 2.6, "A5-08: Light,
-- Temperature and Occupancy Sensor" and "A5-10: Room Operating Panel").
use Rattle.std.specs.Prelude.{ℕ, List, [], ◌∷◌, codes}

-- its words
abbrev pub pressed_or_released : List (ℕ × List ℕ)
pressed_or_released = (0, codes "pressed") ∷ (1, codes "released") ∷ []
