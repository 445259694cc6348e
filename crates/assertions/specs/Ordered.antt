-- That ranges are in order is one fact.
use mathlib.Core.HLevel.{Unit-prop}
use denote.Struct.Props.{props}
use Rattle.assertions.specs.Written.{Written, boolean, delay, lead, repeat, or, and, intersect}
use Rattle.assertions.specs.Written.{throughout, IsOrdered}

pub IsOrdered-prop : {B : Type 0} (r : Written B) → IsProp (IsOrdered r)
IsOrdered-prop (boolean b) = Unit-prop
IsOrdered-prop (delay r least most s) = Prim.hlevel (props, IsOrdered-prop r, IsOrdered-prop s)
IsOrdered-prop (lead least most s) = Prim.hlevel (props, IsOrdered-prop s)
IsOrdered-prop (repeat r least most) = Prim.hlevel (props, IsOrdered-prop r)
IsOrdered-prop (or r s) = Prim.hlevel (props, IsOrdered-prop r, IsOrdered-prop s)
IsOrdered-prop (and r s) = Prim.hlevel (props, IsOrdered-prop r, IsOrdered-prop s)
IsOrdered-prop (intersect r s) = Prim.hlevel (props, IsOrdered-prop r, IsOrdered-prop s)
IsOrdered-prop (throughout b r) = IsOrdered-prop r
