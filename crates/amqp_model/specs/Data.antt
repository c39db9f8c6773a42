-- What a value is, apart from where it lies in memory (AMQP 1.0 part 1, section 1.6).
use Rattle.std.specs.Prelude.{suc, ℕ, ℤ, Bool, List}
use Rattle.amqp_model.specs.declared.code.Kind.{Kind}

mutual
  -- Texts are their bytes, and so are numbers with a binary point; a char is its number, a timestamp
  -- its milliseconds. An array carries the type of its elements; a described value is its
  -- descriptor, then what is described.
  pub data Data : Type 0 where
    null : Data
    boolean : Bool → Data
    ubyte : ℕ → Data
    ushort : ℕ → Data
    uint : ℕ → Data
    ulong : ℕ → Data
    byte : ℤ → Data
    short : ℤ → Data
    int : ℤ → Data
    long : ℤ → Data
    float : List ℕ → Data
    double : List ℕ → Data
    decimal32 : List ℕ → Data
    decimal64 : List ℕ → Data
    decimal128 : List ℕ → Data
    char : ℕ → Data
    timestamp : ℤ → Data
    uuid : List ℕ → Data
    binary : List ℕ → Data
    string : List ℕ → Data
    symbol : List ℕ → Data
    list : Items → Data
    map : Pairs → Data
    array : Kind → Items → Data
    described : Data → Data → Data

  pub data Items : Type 0 where
    no_items : Items
    item : Data → Items → Items

  pub data Pairs : Type 0 where
    no_pairs : Pairs
    pair : Data → Data → Pairs → Pairs

-- how many values there are
abbrev pub count : Items → ℕ
count no_items = 0
count (item v vs) = suc (count vs)

abbrev pub pair_count : Pairs → ℕ
pair_count no_pairs = 0
pair_count (pair k v ps) = suc (pair_count ps)
