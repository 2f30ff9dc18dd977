-- What holds on both sides of a test holds of the choice between them.
use Rattle.std.specs.Prelude.{if◌then◌else◌}
use mathlib.Core.Path.{◌≡◌, refl}
use mathlib.Core.Bool.{Bool, true, false, ◌&&◌, false≢true, ◌||◌, true≢false}

pub branch : {A : Type 0} (b : Bool) (x x' y y' : A) → x ≡ x' → y ≡ y' → ◌≡◌ {A = A} (if b then x else y) (if b then x' else y')
branch true x x' y y' p q = p
branch false x x' y y' p q = q

pub either : {A : Type 0} (P : A → Type 0) (b : Bool) (x y : A) → P x → P y → P (if b then x else y)
either P true x y p q = p
either P false x y p q = q

-- each side under the test's outcome
pub given : {A : Type 0} (P : A → Type 0) (b : Bool) (x y : A) → (b ≡ true → P x) → (b ≡ false → P y) → P (if b then x else y)
given P true x y p q = p refl
given P false x y p q = q refl

pub alike : {A : Type 0} (b : Bool) (x x' y y' : A) → (b ≡ true → x ≡ x') → (b ≡ false → y ≡ y') → ◌≡◌ {A = A} (if b then x else y) (if b then x' else y')
alike true x x' y y' p q = p refl
alike false x x' y y' p q = q refl

pub and_split : (b c : Bool) → b && c ≡ true → (b ≡ true) × (c ≡ true)
and_split true c h = (refl, h)
and_split false c h = absurd (false≢true h)

pub or_split : (b c : Bool) → b || c ≡ false → (b ≡ false) × (c ≡ false)
or_split true c h = absurd (true≢false h)
or_split false c h = (refl, h)
